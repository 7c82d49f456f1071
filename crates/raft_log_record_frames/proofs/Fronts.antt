-- What stands at the front of any bytes.
use Rattle.std.specs.Prelude.{slice_range, ◌⊎◌}
use Rattle.std.specs.Int.{w64, from_be_bytes}
use Rattle.std.proofs.Common.{◌≡◌, ℕ, ◌+◌, ◌-◌, ◌*◌, ltb, List, ◌++◌, length, take, drop, Option, Result, Ok, Err, inl, inr, refl, sym, ap, subst, ◌∙◌, append_assoc, arith}
use Rattle.std.proofs.lemmas.Bool.{le-ltb, ltb-false}
use Rattle.std.proofs.lemmas.List.{take-append-drop, length-take-le}
use Rattle.raft_log_record_base.specs.Grammar.{◌>>=◌}
use Rattle.raft_log_record_base.specs.Fault.{Fault}
use Rattle.raft_log_record_base.specs.Fault.Fault.{corrupt}
use Rattle.raft_log_record_base.proofs.Public.{bind_ok, chosen, done, ok_is}
use Rattle.raft_log_record_items.specs.declared.item.LogItem.{LogItem}
use Rattle.raft_log_record_items.specs.declared.compression.CompressionType.{CompressionType}
use Rattle.raft_log_record_items.specs.declared.compression.CompressionType.TheVariants as kinds
use Rattle.raft_log_record_frames.specs.Record.{IsFrame, Front, header_at, block_of, footer_of, frame_of, frame_at, record_at, past_input}
use Rattle.raft_log_record_frames.specs.Frames.{FrameIsRead, RecordIsRead, FramesAreReadBack, RecordsAreReadBack, RecordIsTold, BeginsRecord, NoFrameInZeros}
use Rattle.raft_log_record_frames.proofs.Headers.{header_words}
use Rattle.raft_log_record_frames.proofs.Blocks.{block_found, block_again}
use Rattle.raft_log_record_frames.proofs.Frames.{ReadsFrame, frame_back, frame_read, frames_take_bytes}

is_none : (k : CompressionType) → k ≡ kinds.None
is_none kinds.None = refl

-- what is taken of a frame of which the parts are read
frame_made : (signature : Option ℕ) (input : List ℕ) (offset len : ℕ) (items : List LogItem) → ReadsFrame signature input offset len items
    → frame_at signature input ≡ Ok (record { len = len; items = items; bytes = slice_range input 16 offset })
unfolding frame_at frame_of
frame_made signature input offset len items r = rw (r.header, le-ltb (length input) len r.whole, r.footer) refl

-- the parts of a frame that is taken
frame_parts : (signature : Option ℕ) (input : List ℕ) (front : Front) → frame_at signature input ≡ Ok front
    → (offset : ℕ) × ReadsFrame signature input offset front.len front.items × (slice_range input 16 offset ≡ front.bytes)
unfolding frame_at frame_of
frame_parts signature input front e =
    let h = bind_ok (header_at input) (λ (r : (ℕ × CompressionType × ℕ) × List ℕ). frame_of signature input r.0.0 r.0.2) front e in
    let offset : ℕ = h.0.0.0 in
    let len : ℕ = h.0.0.2 in
    let make : List LogItem → Front = λ items. record { len = len; items = items; bytes = slice_range input 16 offset } in
    elim (chosen (ltb (length input) len) (Err (corrupt (past_input len))) (footer_of signature (offset - 16) (slice_range input offset len) >>= λ items. Ok (make items)) (Ok front) h.2) [
      | inl p ↦ absurd cc
      | inr q ↦
          let f = bind_ok (footer_of signature (offset - 16) (slice_range input offset len)) (λ (items : List LogItem). done {E = Fault} (make items)) front q.1 in
          let is : make f.0 ≡ front = ok_is {E = Fault} (make f.0) front f.2 in (
            offset,
            subst (λ (x : Front). ReadsFrame signature input offset x.len x.items) is (record {
              behind = h.0.1;
              header = h.1 ∙ ap (λ (k : CompressionType). done {E = Fault} ((offset, k, len), h.0.1)) (is_none h.0.0.1);
              whole = ltb-false (length input) len q.0;
              footer = f.1;
            }),
            ap (λ (x : Front). x.bytes) is,
          )
    ]

pub frame_is_read : FrameIsRead
frame_is_read signature input front = (
  λ e.
      let p = frame_parts signature input front e in
      (p.1.whole, subst (λ (l : List ℕ). IsFrame signature (take front.len input) front.items l) p.2 (frame_read signature input p.0 front.len front.items p.1)),
  λ h.
      let back = frame_back signature (take front.len input) front.bytes (drop front.len input) front.items h.1 in
      let whole : take front.len input ++ drop front.len input ≡ input = take-append-drop front.len input in
      let size : length (take front.len input) ≡ front.len = length-take-le front.len input h.0 in
      let offset : ℕ = 16 + length front.bytes in
      let reads : ReadsFrame signature input offset front.len front.items = subst (λ (n : ℕ). ReadsFrame signature input offset n front.items) size (subst (λ (l : List ℕ). ReadsFrame signature l offset (length (take front.len input)) front.items) whole back.0) in
      let inner : slice_range input 16 offset ≡ front.bytes = ap (λ (l : List ℕ). slice_range l 16 offset) (sym whole) ∙ back.1 in
      frame_made signature input offset front.len front.items reads ∙ ap (λ (l : List ℕ). done {E = Fault} (record { len = front.len; items = front.items; bytes = l })) inner,
)

-- the record of a frame whose block is read
pub record_of_block : (signature : Option ℕ) (input : List ℕ) (front : Front) (entries : List ℕ) → frame_at signature input ≡ Ok front → block_of front.bytes ≡ Ok entries
    → record_at signature input ≡ Ok (record front { bytes = entries })
unfolding record_at
record_of_block signature input front entries e b = rw (e, b) refl

record_parts : (signature : Option ℕ) (input : List ℕ) (front : Front) → record_at signature input ≡ Ok front
    → (frame : Front) × (frame_at signature input ≡ Ok frame) × (block_of frame.bytes ≡ Ok front.bytes) × (record frame { bytes = front.bytes } ≡ front)
unfolding record_at
record_parts signature input front e =
    let f = bind_ok (frame_at signature input) (λ (frame : Front). block_of frame.bytes >>= λ (entries : List ℕ). done {E = Fault} (record frame { bytes = entries })) front e in
    let b = bind_ok (block_of f.0.bytes) (λ (entries : List ℕ). done {E = Fault} (record f.0 { bytes = entries })) front f.2 in
    let is : record f.0 { bytes = b.0 } ≡ front = ok_is {E = Fault} (record f.0 { bytes = b.0 }) front b.2 in
    let same : b.0 ≡ front.bytes = ap (λ (x : Front). x.bytes) is in
    (f.0, f.1, b.1 ∙ ap (λ (l : List ℕ). done {E = Fault} l) same, ap (λ (l : List ℕ). record f.0 { bytes = l }) (sym same) ∙ is)

pub record_is_read : RecordIsRead
record_is_read signature input front = (
  λ e.
      let p = record_parts signature input front e in
      let frame = (frame_is_read signature input p.0).0 p.1 in
      let len : p.0.len ≡ front.len = ap (λ (x : Front). x.len) p.3 in
      let items : p.0.items ≡ front.items = ap (λ (x : Front). x.items) p.3 in (
        omega (arith, frame.0, len),
        record {
          block = p.0.bytes;
          frame = subst (λ (n : ℕ). IsFrame signature (take n input) front.items p.0.bytes) len (subst (λ (xs : List LogItem). IsFrame signature (take p.0.len input) xs p.0.bytes) items frame.1);
          block_spelled = block_found p.0.bytes front.bytes p.2;
        },
      ),
  λ h.
      let frame : Front = record { len = front.len; items = front.items; bytes = h.1.block } in
      let taken : frame_at signature input ≡ Ok frame = (frame_is_read signature input frame).1 (h.0, h.1.frame) in
      record_of_block signature input frame front.bytes taken (block_again h.1.block front.bytes h.1.block_spelled),
)

pub frames_are_read_back : FramesAreReadBack
frames_are_read_back signature bytes block rest items h =
    let back = frame_back signature bytes block rest items h in
    let n : ℕ = length bytes in
    frame_made signature (bytes ++ rest) (16 + length block) n items back.0
    ∙ ap (λ (l : List ℕ). done {E = Fault} (record { len = n; items = items; bytes = l })) back.1

pub records_are_read_back : RecordsAreReadBack
records_are_read_back signature bytes entries rest items h =
    let frame : Front = record { len = length bytes; items = items; bytes = h.block } in
    record_of_block signature (bytes ++ rest) frame entries (frames_are_read_back signature bytes h.block rest items h.frame) (block_again h.block entries h.block_spelled)

told : (signature : Option ℕ) (input : List ℕ) (r : Result Front Fault) → record_at signature input ≡ r → BeginsRecord signature input ⊎ (BeginsRecord signature input → ⊥)
told signature input (Ok front) e = let p = (record_is_read signature input front).0 e in inl (front, p.0, p.1)
told signature input (Err f) e = inr (λ b. let k = (record_is_read signature input b.0).1 (b.1, b.2) in absurd cc)

pub record_is_told : RecordIsTold
record_is_told signature input = told signature input (record_at signature input) refl

pub no_frame_in_zeros : NoFrameInZeros
no_frame_in_zeros signature bytes block items zeros h =
    let rest : List ℕ = block ++ h.footer in
    let whole : bytes ≡ h.header ++ rest = h.joined ∙ append_assoc h.header block h.footer in
    let words = header_words h.header rest (length bytes) (16 + length block) h.header_spelled in
    let first : from_be_bytes w64 (take 8 bytes) ≡ 256 * length bytes = ap (λ (l : List ℕ). from_be_bytes w64 (take 8 l)) whole ∙ words.1 in
    let none : from_be_bytes w64 (take 8 bytes) ≡ 0 = ap (λ (l : List ℕ). from_be_bytes w64 l) zeros in
    absurd (omega (arith, first, none, frames_take_bytes signature bytes block items h))

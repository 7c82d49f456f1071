-- At one place there is one record only, and it is what the decoders read.
use Rattle.std.proofs.Common.{◌≡◌, ℕ, ◌+◌, ◌-◌, ◌*◌, ◌≤◌, List, [], ◌++◌, length, take, drop, Option, Ok, refl, sym, ap, subst, ◌∙◌, append_assoc, arith}
use Rattle.std.specs.Prelude.{slice_range}
use Rattle.std.specs.Int.{w64, from_be_bytes}
use Rattle.std.proofs.lemmas.List.{take_at, drop_at, take-append-drop, length-take-le, length-drop, length-append}
use Rattle.raft_log_record_base.proofs.Public.{ok_is, prefix_free}
use Rattle.raft_log_record_items.specs.declared.item.LogItem.{LogItem}
use Rattle.raft_log_record_items.specs.declared.compression.CompressionType.TheVariants as kinds
use Rattle.raft_log_record_base.specs.Fault.{Fault}
use Rattle.raft_log_record_items.proofs.Public.{are_items}
use Rattle.raft_log_record_frames.specs.Record.{IsHeader, IsSoundHeader, IsFrame, AddsUp, header_at, block_of, footer_of}
use Rattle.raft_log_record_frames.specs.Frames.{OneHeaderAtAPlace, OneFooterAtAPlace, OneBlockOfALength, OneFrameAtAPlace, OneRecordAtAPlace, RecordIsFrameAndBlock, FramesTakeBytes}
use Rattle.raft_log_record_frames.proofs.Headers.{is_sound_header, header_words, header_again}
use Rattle.raft_log_record_frames.proofs.Blocks.{block_again}
use Rattle.raft_log_record_frames.proofs.Footers.{footer_again, footer_found, some_bytes}

-- fronts of one length of the same bytes are one, and so is what stands behind them
same_front : (a b x y : List ℕ) → length a ≡ length b → a ++ x ≡ b ++ y → (a ≡ b) × (x ≡ y)
same_front a b x y len e = (
  sym (take_at a x (length a) refl) ∙ ap (λ (l : List ℕ). take (length a) l) e ∙ take_at b y (length a) (sym len),
  sym (drop_at a x (length a) refl) ∙ ap (λ (l : List ℕ). drop (length a) l) e ∙ drop_at b y (length a) (sym len),
)

pub one_header : OneHeaderAtAPlace
one_header = prefix_free is_sound_header

pub one_footer : OneFooterAtAPlace
one_footer s t a b x y items others h k e =
    let left : a ++ x ≡ h.body ++ (h.checksum ++ x) = ap (λ (l : List ℕ). l ++ x) h.joined ∙ append_assoc h.body h.checksum x in
    let right : b ++ y ≡ k.body ++ (k.checksum ++ y) = ap (λ (l : List ℕ). l ++ y) k.joined ∙ append_assoc k.body k.checksum y in
    let whole : h.body ++ (h.checksum ++ x) ≡ k.body ++ (k.checksum ++ y) = sym left ∙ e ∙ right in
    let body = prefix_free are_items h.body k.body (h.checksum ++ x) (k.checksum ++ y) items others h.items_spelled k.items_spelled whole in
    let behind = same_front h.body k.body (h.checksum ++ x) (k.checksum ++ y) (ap (λ (l : List ℕ). length l) body.0) whole in
    let sum = same_front h.checksum k.checksum x y (h.checksum_spelled.size ∙ sym k.checksum_spelled.size) behind.1 in
    (h.joined ∙ ap (λ (l : List ℕ). l ++ h.checksum) body.0 ∙ ap (λ (l : List ℕ). k.body ++ l) sum.0 ∙ sym k.joined, body.1)

pub one_block : OneBlockOfALength
one_block a b x y entries others h k len e =
    let same = same_front a b x y len e in
    (same.0, ok_is {E = Fault} entries others (sym (block_again a entries h) ∙ ap block_of same.0 ∙ block_again b others k))

-- ---- frames

-- behind the header of a frame stand its block and its footer
grouped : (signature : Option ℕ) (bytes block rest : List ℕ) (items : List LogItem) (h : IsFrame signature bytes items block) → bytes ++ rest ≡ h.header ++ (block ++ (h.footer ++ rest))
grouped signature bytes block rest items h =
    ap (λ (l : List ℕ). l ++ rest) h.joined ∙ append_assoc (h.header ++ block) h.footer rest ∙ append_assoc h.header block (h.footer ++ rest)

pub one_frame : OneFrameAtAPlace
one_frame s t a b x y block other items others h k e =
    let whole : h.header ++ (block ++ (h.footer ++ x)) ≡ k.header ++ (other ++ (k.footer ++ y)) = sym (grouped s a block x items h) ∙ e ∙ grouped t b other y others k in
    let one = header_words h.header (block ++ (h.footer ++ x)) (length a) (16 + length block) h.header_spelled in
    let two = header_words k.header (other ++ (k.footer ++ y)) (length b) (16 + length other) k.header_spelled in
    let sizes : 256 * length a ≡ 256 * length b = sym one.1 ∙ ap (λ (l : List ℕ). from_be_bytes w64 (take 8 l)) whole ∙ two.1 in
    let offsets : 16 + length block ≡ 16 + length other = sym one.2 ∙ ap (λ (l : List ℕ). from_be_bytes w64 (take 8 (drop 8 l))) whole ∙ two.2 in
    let behind = same_front h.header k.header (block ++ (h.footer ++ x)) (other ++ (k.footer ++ y)) (one.0 ∙ sym two.0) whole in
    let after = same_front block other (h.footer ++ x) (k.footer ++ y) (omega (arith, offsets)) behind.1 in
    let footer = one_footer s t h.footer k.footer x y items others h.footer_spelled k.footer_spelled after.1 in
    ((same_front a b x y (omega (arith, sizes)) e).0, footer.1, after.0)

pub one_record : OneRecordAtAPlace
one_record s t a b x y entries more items others h k e =
    let frames = one_frame s t a b x y h.block k.block items others h.frame k.frame e in
    (frames.0, frames.1, ok_is {E = Fault} entries more (sym (block_again h.block entries h.block_spelled) ∙ ap block_of frames.2 ∙ block_again k.block more k.block_spelled))

pub record_is_frame : RecordIsFrameAndBlock
record_is_frame signature bytes entries items = (
  λ h. (h.block, h.frame, h.block_spelled),
  λ p. record { block = p.0; frame = p.1; block_spelled = p.2 },
)

-- how long the parts of a frame are
record Sizes (first block last bytes : List ℕ) : Type 0 where
  header : length first ≡ 16
  footer : 5 ≤ length last
  all : length bytes ≡ 16 + length block + length last

sizes_of : (signature : Option ℕ) (bytes block : List ℕ) (items : List LogItem) (h : IsFrame signature bytes items block) → Sizes h.header block h.footer bytes
sizes_of signature bytes block items h =
    let words = header_words h.header [] (length bytes) (16 + length block) h.header_spelled in
    let f = h.footer_spelled in
    let tail : 5 ≤ length h.footer = omega (arith, ap (λ (l : List ℕ). length l) f.joined, length-append f.body f.checksum, some_bytes f.body items f.items_spelled, f.checksum_spelled.size) in
    record {
      header = words.0;
      footer = tail;
      all = omega (arith, ap (λ (l : List ℕ). length l) h.joined, length-append (h.header ++ block) h.footer, length-append h.header block, words.0);
    }

pub frames_take_bytes : FramesTakeBytes
frames_take_bytes signature bytes block items h =
    let sizes = sizes_of signature bytes block items h in
    omega (arith, sizes.footer, sizes.all)

-- ---- reading

-- The decoders of the header and of the footer accept a record of this length at the front of the input, whose footer
-- begins at this offset.
pub record ReadsFrame (signature : Option ℕ) (input : List ℕ) (offset len : ℕ) (items : List LogItem) : Type 0 where
  pub behind : List ℕ
  pub header : header_at input ≡ Ok ((offset, kinds.None, len), behind)
  pub whole : len ≤ length input
  pub footer : footer_of signature (offset - 16) (slice_range input offset len) ≡ Ok items

pub frame_back : (signature : Option ℕ) (bytes block rest : List ℕ) (items : List LogItem) → IsFrame signature bytes items block
    → ReadsFrame signature (bytes ++ rest) (16 + length block) (length bytes) items × (slice_range (bytes ++ rest) 16 (16 + length block) ≡ block)
frame_back signature bytes block rest items h =
    let sizes = sizes_of signature bytes block items h in
    let whole = grouped signature bytes block rest items h in
    let len : ℕ = length bytes in
    let offset : ℕ = 16 + length block in
    let sound : IsSoundHeader h.header (offset, kinds.None, len) = record {
      spelled = h.header_spelled;
      plain = refl;
      behind = omega arith;
      inside = omega (arith, sizes.all);
    } in
    let behind : drop 16 (bytes ++ rest) ≡ block ++ (h.footer ++ rest) = ap (λ (l : List ℕ). drop 16 l) whole ∙ drop_at h.header (block ++ (h.footer ++ rest)) 16 sizes.header in
    let front : length (h.header ++ block) ≡ offset = length-append h.header block ∙ ap (λ (n : ℕ). n + length block) sizes.header in
    let after : drop offset (bytes ++ rest) ≡ h.footer ++ rest =
    ap (λ (l : List ℕ). drop offset l) (whole ∙ sym (append_assoc h.header block (h.footer ++ rest))) ∙ drop_at (h.header ++ block) (h.footer ++ rest) offset front in
    let footer : slice_range (bytes ++ rest) offset len ≡ h.footer = ap (λ (l : List ℕ). take (len - offset) l) after ∙ take_at h.footer rest (len - offset) (omega (arith, sizes.all)) in
    let inner : slice_range (bytes ++ rest) 16 offset ≡ block = ap (λ (l : List ℕ). take (offset - 16) l) behind ∙ take_at block (h.footer ++ rest) (offset - 16) (omega arith) in
    let block_len : offset - 16 ≡ length block = omega arith in (
      record {
        behind = block ++ (h.footer ++ rest);
        header = ap header_at whole ∙ header_again h.header (block ++ (h.footer ++ rest)) (offset, kinds.None, len) sound;
        whole = omega (arith, length-append bytes rest);
        footer = ap (λ (l : List ℕ). footer_of signature (offset - 16) l) footer ∙ ap (λ (n : ℕ). footer_of signature n h.footer) block_len ∙ footer_again signature (length block) h.footer items h.footer_spelled h.adds_up;
      },
      inner,
    )

-- the front of bytes in three parts
in_parts : (from to : ℕ) (bytes : List ℕ) → from ≤ to → to ≤ length bytes → take to bytes ≡ (take from bytes ++ slice_range bytes from to)
in_parts from to bytes ordered fits =
    let front : length (take from bytes) ≡ from = length-take-le from bytes (omega arith) in
    let inner : length (slice_range bytes from to) ≡ to - from = length-take-le (to - from) (drop from bytes) (omega (arith, length-drop from bytes)) in
    let split : bytes ≡ (take from bytes ++ slice_range bytes from to) ++ drop (to - from) (drop from bytes) =
    sym (take-append-drop from bytes) ∙ ap (λ (l : List ℕ). take from bytes ++ l) (sym (take-append-drop (to - from) (drop from bytes)))
    ∙ sym (append_assoc (take from bytes) (slice_range bytes from to) (drop (to - from) (drop from bytes))) in
    ap (λ (l : List ℕ). take to l) split
    ∙ take_at (take from bytes ++ slice_range bytes from to) (drop (to - from) (drop from bytes)) to (omega (arith, length-append (take from bytes) (slice_range bytes from to), front, inner))

pub frame_read : (signature : Option ℕ) (input : List ℕ) (offset len : ℕ) (items : List LogItem) → ReadsFrame signature input offset len items
    → IsFrame signature (take len input) items (slice_range input 16 offset)
frame_read signature input offset len items r =
    let read = is_sound_header.takes input ((offset, kinds.None, len), r.behind) r.header in
    let sound = read.1 in
    let words = header_words read.0 r.behind len offset sound.spelled in
    let front : take 16 input ≡ read.0 = ap (λ (l : List ℕ). take 16 l) read.2 ∙ take_at read.0 r.behind 16 words.0 in
    let size : length (take len input) ≡ len = length-take-le len input r.whole in
    let inner : length (slice_range input 16 offset) ≡ offset - 16 = length-take-le (offset - 16) (drop 16 input) (omega (arith, length-drop 16 input, sound.inside, r.whole)) in
    let at : offset ≡ 16 + length (slice_range input 16 offset) = omega (arith, inner, sound.behind) in
    let found = footer_found signature (offset - 16) (slice_range input offset len) items r.footer in
    record {
      header = take 16 input;
      footer = slice_range input offset len;
      joined = in_parts offset len input sound.inside r.whole ∙ ap (λ (l : List ℕ). l ++ slice_range input offset len) (in_parts 16 offset input sound.behind (omega (arith, sound.inside, r.whole)));
      header_spelled = subst (λ (n : ℕ). IsHeader (take 16 input) (length (take len input)) n) at
          (subst (λ (n : ℕ). IsHeader (take 16 input) n offset) (sym size) (subst (λ (l : List ℕ). IsHeader l len offset) (sym front) sound.spelled));
      footer_spelled = found.0;
      adds_up = subst (λ (n : ℕ). AddsUp items n) (sym inner) found.1;
    }

-- Records that stand behind padding stand without it in the new bytes, one behind the other.
use Rattle.std.proofs.Common.{◌≡◌, ℕ, ◌+◌, ◌<◌, ◌≤◌, List, [], ◌∷◌, ◌++◌, length, take, drop, Option, Result, Ok, Err, IsErr, refl, sym, ap, subst, ◌∙◌, append_assoc, arith}
use Rattle.std.proofs.lemmas.List.{length-append, length-drop, length-take-le, drop-drop, drop_at}
use Rattle.std.proofs.Math.Seq.{take-append_seam}
use Rattle.raft_log_record_base.specs.Fault.{Fault}
use Rattle.raft_log_record_base.specs.Files.{signature_of}
use Rattle.raft_log_record_base.specs.declared.pipe_log.LogFileContext.{LogFileContext}
use Rattle.raft_log_record_base.proofs.Public.{done}
use Rattle.raft_log_record_items.specs.declared.item.LogItem.{LogItem}
use Rattle.raft_log_record_items.specs.Placed.{placed}
use Rattle.raft_log_record_frames.specs.Record.{Front, frame_at, header_at, record_at}
use Rattle.raft_log_record_frames.proofs.Public.{frame_is_read, frames_are_read_back}
use Rattle.raft_log_file_format.specs.declared.header.LogFileFormat.{LogFileFormat}
use Rattle.raft_log_file_reader.specs.Batches.{padding_len, GoesOnAt, HasBatch, HasNoMore, IsBroken, batch_at, block_at, context_of}
use Rattle.raft_log_file_reader.specs.Batches.GoesOnAt.{behind_padding, at_once}
use Rattle.raft_log_file_reader.specs.declared.open_file.OpenFile.{OpenFile}
use Rattle.raft_log_file_reader.proofs.Public.{batch_broken, block_stands, context_is, extent_header, frame_of_batch, placed_front}
use Rattle.raft_log_open.specs.Content.{HasAllBytes, HasBytes, joined, plain_format}
use Rattle.raft_log_open.specs.Laws.{AreMoved}

-- the same file without an alignment
pub record IsUnpaddedOf (file other : OpenFile) : Type 0 where
  pub id : other.id ≡ file.id
  pub format : other.format ≡ plain_format file.format

pub plain_context : (file other : OpenFile) → IsUnpaddedOf file other → context_of other ≡ context_of file
plain_context file other is = context_is (context_of other) file is.id (ap (λ (f : LogFileFormat). f.version) is.format)

-- without an alignment nothing is skipped
pub goes_at_once : (file other : OpenFile) (content : List ℕ) (at : ℕ) → IsUnpaddedOf file other → GoesOnAt other.format.alignment content at at
goes_at_once file other content at is =
    let none : other.format.alignment ≡ 0 = ap (λ (f : LogFileFormat). f.alignment) is.format in
    at_once (λ padding. let nothing : padding_len other.format.alignment at ≡ 0 = rw none refl in omega (arith, padding.some, nothing)) refl

-- One record.

-- a frame at an offset makes a batch there
batch_of_frame : (context : LogFileContext) (at : ℕ) (content : List ℕ) (front : Front) → frame_at (signature_of context) (drop at content) ≡ Ok front
    → batch_at context at content ≡ placed_front context at front
unfolding batch_at
batch_of_frame context at content front e = rw e refl

-- where one frame is read, one record is
same_record : (signature : Option ℕ) (a b : List ℕ) (front : Front) → frame_at signature a ≡ Ok front → frame_at signature b ≡ Ok front → record_at signature a ≡ record_at signature b
unfolding record_at
same_record signature a b front x y = rw (x, y) refl

-- A record that stands in the old bytes and in the new ones.
pub record Stands (file other : OpenFile) (content new : List ℕ) (at there : ℕ) (items : List LogItem) (len : ℕ) (bytes : List ℕ) : Type 0 where
  pub others : List LogItem
  pub batch : batch_at (context_of other) there new ≡ Ok (len, others)
  pub moved : AreMoved content new items others
  pub whole : record_at (signature_of (context_of file)) (drop at content) ≡ record_at (signature_of (context_of other)) (drop there new)
  pub size : length bytes ≡ len

-- the block of a frame lies behind its header
block_lies : (context : LogFileContext) (at : ℕ) (content : List ℕ) (front : Front) → frame_at (signature_of context) (drop at content) ≡ Ok front
    → take (length front.bytes) (drop (at + 16) content) ≡ front.bytes
block_lies context at content front e =
    ap (take (length front.bytes)) (sym (drop-drop 16 at content)) ∙ block_stands (signature_of context) (drop at content) front e

stands_as : (file other : OpenFile) (content new : List ℕ) (at there : ℕ) (bytes : List ℕ) (context : LogFileContext) (front : Front) → context_of file ≡ context → context_of other ≡ context
    → frame_at (signature_of context) (drop at content) ≡ Ok front → frame_at (signature_of context) (drop there new) ≡ Ok front → length bytes ≡ front.len
    → Stands file other content new at there (placed (block_at context at (length front.bytes)) front.items) front.len bytes
stands_as file other content new at there bytes context front own also a b size = record {
  others = placed (block_at context there (length front.bytes)) front.items;
  batch = ap (λ (c : LogFileContext). batch_at c there new) also ∙ batch_of_frame context there new front b;
  moved = record {
    plain = front.items;
    from = block_at context at (length front.bytes);
    to = block_at context there (length front.bytes);
    lay = refl;
    lie = refl;
    same_file = refl;
    same_len = refl;
    same = block_lies context there new front b ∙ sym (block_lies context at content front a);
  };
  whole = ap (λ (c : LogFileContext). record_at (signature_of c) (drop at content)) own
      ∙ same_record (signature_of context) (drop at content) (drop there new) front a b
      ∙ ap (λ (c : LogFileContext). record_at (signature_of c) (drop there new)) (sym also);
  size = size;
}

-- a record of the old bytes is one of the new ones
pub stands : (file other : OpenFile) (content new rest : List ℕ) (at there len : ℕ) (items : List LogItem) (bytes : List ℕ) → IsUnpaddedOf file other
    → batch_at (context_of file) at content ≡ Ok (len, items) → bytes ≡ take len (drop at content) → drop there new ≡ bytes ++ rest
    → Stands file other content new at there items len bytes
stands file other content new rest at there len items bytes is e are behind =
    let context = context_of file in
    let found = frame_of_batch context at len content items e in
    let front : Front = found.0 in
    let read = (frame_is_read (signature_of context) (drop at content) front).0 found.1 in
    let own = take front.len (drop at content) in
    let mine : bytes ≡ own = are ∙ ap (λ (n : ℕ). take n (drop at content)) (sym found.2) in
    let size : length own ≡ front.len = length-take-le front.len (drop at content) read.0 in
    let again = frames_are_read_back (signature_of context) own front.bytes rest front.items read.1 in
    let there_too : frame_at (signature_of context) (drop there new) ≡ Ok front =
    ap (frame_at (signature_of context)) (behind ∙ ap (λ (l : List ℕ). l ++ rest) mine) ∙ again
    ∙ ap (λ (n : ℕ). done {E = Fault} (record { len = n; items = front.items; bytes = front.bytes })) size in
    let made = stands_as file other content new at there bytes context front refl (plain_context file other is) found.1 there_too (ap length mine ∙ size) in
    subst (λ (n : ℕ). Stands file other content new at there items n bytes) found.2
    (subst (λ (xs : List LogItem). Stands file other content new at there xs front.len bytes) (sym found.3) made)

-- so it is the next one there
abbrev pub next_batch : (file other : OpenFile) (content new : List ℕ) (at there len : ℕ) (items : List LogItem) (bytes : List ℕ) → IsUnpaddedOf file other → (s : Stands file other content new at there items len bytes)
    → HasBatch other new there s.others (there + length bytes)
next_batch file other content new at there len items bytes is s =
    record { at = there; goes_on = goes_at_once file other new there is; len = len; frame = s.batch; ends = ap (λ (n : ℕ). there + n) s.size }

pub next_bytes : (file other : OpenFile) (content new rest : List ℕ) (at there len : ℕ) (items : List LogItem) (bytes : List ℕ) → IsUnpaddedOf file other → Stands file other content new at there items len bytes
    → drop there new ≡ bytes ++ rest → HasBytes other new there bytes (there + length bytes)
next_bytes file other content new rest at there len items bytes is s behind = record {
  items = s.others;
  batch = next_batch file other content new at there len items bytes is s;
  are = sym (ap (λ (n : ℕ). take n (drop there new)) (sym s.size) ∙ ap (take (length bytes)) behind ∙ take-append_seam bytes rest);
}

-- what stands behind it
pub behind_next : (new bytes rest : List ℕ) (there : ℕ) → drop there new ≡ bytes ++ rest → drop (there + length bytes) new ≡ rest
behind_next new bytes rest there behind =
    sym (drop-drop (length bytes) there new) ∙ ap (drop (length bytes)) behind ∙ drop_at bytes rest (length bytes) refl

pub inside_next : (new bytes rest : List ℕ) (there : ℕ) → drop there new ≡ bytes ++ rest → there ≤ length new → there + length bytes ≤ length new
inside_next new bytes rest there behind inside = omega (arith, inside, length-drop there new, ap length behind, length-append bytes rest)

-- All records.

pub all_stand : (file other : OpenFile) (content new rest : List ℕ) (offset end there : ℕ) (records : List (List ℕ)) → IsUnpaddedOf file other → HasAllBytes file content offset records end
    → drop there new ≡ joined records ++ rest → HasAllBytes other new there records (there + length (joined records))
all_stand file other content new rest offset end there [] is are behind = omega arith
all_stand file other content new rest offset end there (bytes ∷ more) is (next, has, later) behind =
    let b = has.batch in
    let front : drop there new ≡ bytes ++ (joined more ++ rest) = behind ∙ append_assoc bytes (joined more) rest in
    let s = stands file other content new (joined more ++ rest) b.at there b.len has.items bytes is b.frame has.are front in
    let further = all_stand file other content new rest next end (there + length bytes) more is later (behind_next new bytes (joined more ++ rest) there front) in
    let last : there + length bytes + length (joined more) ≡ there + length (bytes ++ joined more) = omega (arith, length-append bytes (joined more)) in (
      there + length bytes,
      next_bytes file other content new (joined more ++ rest) b.at there b.len has.items bytes is s front,
      subst (λ (n : ℕ). HasAllBytes other new (there + length bytes) more n) last further,
    )

-- Behind the last one.

pub ended : (file other : OpenFile) (new : List ℕ) (there : ℕ) → IsUnpaddedOf file other → drop there new ≡ [] → there ≤ length new → HasNoMore other new there
ended file other new there is behind inside =
    let end : there ≡ length new = omega (arith, inside, length-drop there new, ap length behind) in
    record { goes_on = subst (λ (n : ℕ). GoesOnAt other.format.alignment new there n) end (goes_at_once file other new there is) }

-- the same bytes have the same fault, wherever they stand
same_fault : (context : LogFileContext) (at there : ℕ) (content new : List ℕ) (f : Fault) → drop at content ≡ drop there new → batch_at context at content ≡ Err f → batch_at context there new ≡ Err f
unfolding batch_at
same_fault context at there content new f same e = by_frame (frame_at (signature_of context) (drop at content)) refl where
  by_frame : (r : Result Front Fault) → frame_at (signature_of context) (drop at content) ≡ r → batch_at context there new ≡ Err f
  by_frame (Ok front) is = let bad = sym (batch_of_frame context at content front is) ∙ e in absurd cc
  by_frame (Err g) is =
      let here : frame_at (signature_of context) (drop there new) ≡ Err g = ap (frame_at (signature_of context)) (sym same) ∙ is in
      let old : Err g ≡ batch_at context at content = rw is refl in
      let fault : Err g ≡ Err f = old ∙ e in
      let one : g ≡ f = cc in
      rw (here, one) refl

-- a header that isn't one
bad_header : {X : Type 0} (r : Result X Fault) → IsErr r → (f : Fault) × (r ≡ Err f)
bad_header (Ok x) bad = absurd cc
bad_header (Err f) bad = (f, refl)

pub still_broken : (file other : OpenFile) (content new : List ℕ) (end there : ℕ) (fault : Fault) → IsUnpaddedOf file other → IsBroken file content end fault → drop there new ≡ drop end content
    → (f : Fault) × IsBroken other new there f
still_broken file other content new end there fault is broken behind = at_place broken.goes_on
  where
    context : LogFileContext
    context = context_of file

    of_context : (f : Fault) → batch_at context there new ≡ Err f → there < length new → IsBroken other new there f
    of_context f e inside = record {
      at = there;
      goes_on = goes_at_once file other new there is;
      inside = inside;
      frame = ap (λ (c : LogFileContext). batch_at c there new) (plain_context file other is) ∙ e;
    }

    at_place : GoesOnAt file.format.alignment content end broken.at → (f : Fault) × IsBroken other new there f
    at_place (behind_padding padding at) =
        let bad = bad_header (header_at (drop end content)) padding.broken in
        let f : Fault = bad.0 in
        let fault : batch_at context there new ≡ Err f = batch_broken context there new f (extent_header (drop there new) f (ap header_at behind ∙ bad.1)) in
        (f, of_context f fault (omega (arith, padding.room, ap length behind, length-drop there new)))
    at_place (at_once none at) =
        let here : batch_at context end content ≡ Err fault = ap (λ (k : ℕ). batch_at context k content) (sym at) ∙ broken.frame in
        (fault, of_context fault (same_fault context end there content new fault (sym behind) here) (omega (arith, at, broken.inside, ap length behind, length-drop end content, length-drop there new)))

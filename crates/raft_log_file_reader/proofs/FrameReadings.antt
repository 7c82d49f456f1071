-- The batches of a file are its frames.
use Rattle.std.specs.Prelude.{slice_range}
use Rattle.std.proofs.Common.{◌≡◌, ℕ, ◌+◌, ◌-◌, ◌≤◌, inl, inr, List, [], ◌∷◌, ◌++◌, length, take, drop, Option, Ok, refl, sym, ap, subst, ◌∙◌, append_assoc, arith}
use Rattle.std.proofs.lemmas.List.{length-drop, length-append, length-take-le, drop-drop, take-append-drop}
use Rattle.std.proofs.Math.Seq.{take-append_seam}
use Rattle.raft_log_record_base.specs.Fault.{Fault}
use Rattle.raft_log_record_base.specs.Files.{signature_of}
use Rattle.raft_log_record_base.specs.declared.pipe_log.LogFileContext.{LogFileContext}
use Rattle.raft_log_record_base.proofs.Public.{bind_ok, ok_is}
use Rattle.raft_log_record_items.specs.declared.item.LogItem.{LogItem}
use Rattle.raft_log_record_items.specs.Placed.{placed}
use Rattle.raft_log_record_frames.specs.Record.{IsFrame, Front, block_of, frame_at}
use Rattle.raft_log_record_frames.proofs.Public.{frame_back, frame_is_read, frames_take_bytes, record_of_block}
use Rattle.raft_log_file_writer.specs.LawsChains.{Refuses, spelled}
use Rattle.raft_log_file_reader.specs.Batches.{padding_len, GoesOnAt, batch_at, block_at, context_of, HasBatches}
use Rattle.raft_log_file_reader.specs.Batches.GoesOnAt.{behind_padding, at_once}
use Rattle.raft_log_file_reader.specs.Laws.{EndsBehind, IsFrameOf, BatchesAreFrames, WholeBlockMakesRecord}
use Rattle.raft_log_file_reader.specs.declared.open_file.OpenFile.{OpenFile}
use Rattle.raft_log_file_reader.proofs.Extents.{placed_front}

-- without an alignment nothing is skipped
no_padding : (alignment : ℕ) (content : List ℕ) (offset at : ℕ) → alignment ≡ 0 → GoesOnAt alignment content offset at → at ≡ offset
no_padding alignment content offset at none (behind_padding padding is) =
    let nothing : padding_len alignment offset ≡ 0 = rw none refl in
    absurd (omega (arith, padding.some, nothing))
no_padding alignment content offset at none (at_once free is) = is

-- the frame of a batch
pub frame_of_batch : (context : LogFileContext) (at len : ℕ) (content : List ℕ) (items : List LogItem) → batch_at context at content ≡ Ok (len, items)
    → (front : Front) × (frame_at (signature_of context) (drop at content) ≡ Ok front) × (front.len ≡ len) × (items ≡ placed (block_at context at (length front.bytes)) front.items)
unfolding batch_at
frame_of_batch context at len content items e =
    let f = bind_ok (frame_at (signature_of context) (drop at content)) (placed_front context at) (len, items) e in
    let is = ok_is {E = Fault} (f.0.len, placed (block_at context at (length f.0.bytes)) f.0.items) (len, items) f.2 in
    (f.0, f.1, ap (λ (p : ℕ × List LogItem). p.0) is, sym (ap (λ (p : ℕ × List LogItem). p.1) is))

-- a frame at an offset makes a batch there
batch_of_frame : (context : LogFileContext) (at : ℕ) (content : List ℕ) (front : Front) → frame_at (signature_of context) (drop at content) ≡ Ok front
    → batch_at context at content ≡ placed_front context at front
unfolding batch_at
batch_of_frame context at content front e = rw e refl

-- a frame at the front is read
front_of_frame : (context : LogFileContext) (bytes text rest : List ℕ) (frame : List LogItem × List ℕ) → IsFrameOf context text frame → bytes ≡ text ++ rest
    → frame_at (signature_of context) bytes ≡ Ok (record { len = length text; items = frame.0; bytes = frame.1 })
front_of_frame context bytes text rest frame is split =
    let front : Front = record { len = length text; items = frame.0; bytes = frame.1 } in
    let inside : length text ≤ length bytes = omega (arith, ap length split, length-append text rest) in
    let taken : take (length text) bytes ≡ text = ap (take (length text)) split ∙ take-append_seam text rest in
    (frame_is_read (signature_of context) bytes front).1 (inside, subst (λ (l : List ℕ). IsFrame (signature_of context) l frame.0 frame.1) (sym taken) is)

-- where no batch comes any more no frame begins
none_begins : (file : OpenFile) (content : List ℕ) (offset : ℕ) → file.format.alignment ≡ 0 → EndsBehind file content offset → Refuses (IsFrameOf (context_of file)) (drop offset content)
none_begins file content offset none (inl ended) w rest is split =
    let at = no_padding file.format.alignment content offset (length content) none ended.goes_on in
    let long = frames_take_bytes (signature_of (context_of file)) w.bytes w.value.1 w.value.0 is in
    omega (arith, at, long, ap length split, length-append w.bytes rest, length-drop offset content)
none_begins file content offset none (inr (f, broken)) w rest is split =
    let at = no_padding file.format.alignment content offset broken.at none broken.goes_on in
    let read = front_of_frame (context_of file) (drop offset content) w.bytes rest w.value is split in
    let good = batch_of_frame (context_of file) offset content _ read in
    let bad = ap (λ (k : ℕ). batch_at (context_of file) k content) (sym at) ∙ broken.frame in
    absurd cc

pub batches_are_frames_is : BatchesAreFrames
batches_are_frames_is file content offset end [] none is ends = (
  [],
  record { rest = drop offset content; splits = refl; frames = tt; ends = none_begins file content offset none (subst (EndsBehind file content) is ends) },
  refl,
)
batches_are_frames_is file content offset end (items ∷ more) none has ends =
    let context = context_of file in
    let first = has.1 in
    let at = no_padding file.format.alignment content offset first.at none first.goes_on in
    let frame = frame_of_batch context offset first.len content items (ap (λ (k : ℕ). batch_at context k content) (sym at) ∙ first.frame) in
    let front : Front = frame.0 in
    let stands = (frame_is_read (signature_of context) (drop offset content) front).0 frame.1 in
    let bytes = take front.len (drop offset content) in
    let size : length bytes ≡ front.len = length-take-le front.len (drop offset content) stands.0 in
    let next : has.0 ≡ offset + length bytes = omega (arith, first.ends, at, size, frame.2) in
    let later = batches_are_frames_is file content (offset + length bytes) end more none (subst (λ (k : ℕ). HasBatches file content k more end) next has.2) ends in
    let behind : drop front.len (drop offset content) ≡ drop (offset + length bytes) content =
    drop-drop front.len offset content ∙ ap (λ (n : ℕ). drop (offset + n) content) (sym size) in (
      record { bytes = bytes; value = (front.items, front.bytes) } ∷ later.0,
      record {
        rest = later.1.rest;
        splits = sym (take-append-drop front.len (drop offset content)) ∙ ap (λ (l : List ℕ). bytes ++ l) (behind ∙ later.1.splits)
            ∙ sym (append_assoc bytes (spelled later.0) later.1.rest);
        frames = (stands.1, later.1.frames);
        ends = later.1.ends;
      },
      ap (λ (i : List LogItem). i ∷ more) frame.3 ∙ ap (λ (l : List (List LogItem)). placed (block_at context offset (length front.bytes)) front.items ∷ l) later.2,
    )

-- the block of a frame stands behind its header
pub block_stands : (signature : Option ℕ) (input : List ℕ) (front : Front) → frame_at signature input ≡ Ok front → take (length front.bytes) (drop 16 input) ≡ front.bytes
block_stands signature input front e =
    let stands = (frame_is_read signature input front).0 e in
    let back = frame_back signature (take front.len input) front.bytes (drop front.len input) front.items stands.1 in
    let n : 16 + length front.bytes - 16 ≡ length front.bytes = omega arith in
    ap (λ (k : ℕ). take k (drop 16 input)) (sym n) ∙ ap (λ (l : List ℕ). slice_range l 16 (16 + length front.bytes)) (sym (take-append-drop front.len input)) ∙ back.1

pub whole_block_is : WholeBlockMakesRecord
whole_block_is context at len content items e =
    let frame = frame_of_batch context at len content items e in
    let front : Front = frame.0 in
    let place : take (length front.bytes) (drop (at + 16) content) ≡ front.bytes =
    ap (take (length front.bytes)) (sym (drop-drop 16 at content)) ∙ block_stands (signature_of context) (drop at content) front frame.1 in
    (front, frame.2, frame.3, λ entries whole. record_of_block (signature_of context) (drop at content) front entries frame.1 (ap block_of (sym place) ∙ whole))

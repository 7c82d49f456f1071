-- A batch whose entry block is checked: its record is whole, or torn.
use Rattle.std.proofs.Common.{◌≡◌, ℕ, ◌+◌, ◌<◌, List, length, take, drop, Option, Result, Ok, Err, refl, sym, ap, ◌∙◌, arith}
use Rattle.std.proofs.lemmas.List.{length-drop, length-take-le, drop-drop}
use Rattle.std.proofs.lemmas.Bool.{false≢true}
use Rattle.std.specs.Prelude.{IsOk}
use Rattle.raft_log_record_base.specs.Fault.{Fault}
use Rattle.raft_log_record_base.specs.Files.{signature_of}
use Rattle.raft_log_record_base.specs.declared.pipe_log.FileBlockHandle.{FileBlockHandle}
use Rattle.raft_log_record_frames.specs.Record.{Front, block_of, frame_at, record_at}
use Rattle.raft_log_record_frames.proofs.Public.{frame_is_read, frames_take_bytes}
use Rattle.raft_log_file_reader.specs.Batches.{HasBlock, IsBroken, batch_at, context_of}
use Rattle.raft_log_file_reader.specs.declared.open_file.OpenFile.{OpenFile}
use Rattle.raft_log_file_reader.proofs.Public.{block_stands}
use Rattle.raft_log_recovery_read.specs.Records.{IsRecordTorn, IsWhole}

-- the block lies where it is noted
noted : (file : OpenFile) (content : List ℕ) (offset : ℕ) (block : FileBlockHandle) (h : HasBlock file content offset block) → take block.len (drop block.offset content) ≡ h.lies.front.bytes
noted file content offset block h =
    let front = h.lies.front in
    let len : block.len ≡ length front.bytes = ap (λ (b : FileBlockHandle). b.len) h.lies.place in
    let from : block.offset ≡ h.at + 16 = ap (λ (b : FileBlockHandle). b.offset) h.lies.place in
    ap (λ (n : ℕ). take n (drop block.offset content)) len ∙ ap (λ (n : ℕ). take (length front.bytes) (drop n content)) from
    ∙ ap (take (length front.bytes)) (sym (drop-drop 16 h.at content)) ∙ block_stands (signature_of (context_of file)) (drop h.at content) front h.lies.frame

-- what is found of the block is found of the record
record_found : (signature : Option ℕ) (input : List ℕ) (front : Front) (r : Result (List ℕ) Fault) → frame_at signature input ≡ Ok front → block_of front.bytes ≡ r
    → ((entries : List ℕ) → r ≡ Ok entries → IsOk (record_at signature input)) × ((f : Fault) → r ≡ Err f → record_at signature input ≡ Err f)
unfolding record_at
record_found signature input front r frame block = (
  λ entries is. rw (frame, block, is) refl,
  λ f is. rw (frame, block, is) refl,
)

-- a frame has bytes
frame_inside : (signature : Option ℕ) (at : ℕ) (content : List ℕ) (front : Front) → frame_at signature (drop at content) ≡ Ok front → at < length content
frame_inside signature at content front e =
    let stands = (frame_is_read signature (drop at content) front).0 e in
    let some = frames_take_bytes signature (take front.len (drop at content)) front.bytes front.items stands.1 in
    omega (arith, stands.0, some, length-take-le front.len (drop at content) stands.0, length-drop at content)

pub whole_block : (file : OpenFile) (content : List ℕ) (offset : ℕ) (block : FileBlockHandle) → HasBlock file content offset block → IsOk (block_of (take block.len (drop block.offset content))) → IsWhole file content offset
whole_block file content offset block h ok = by_block (block_of (take block.len (drop block.offset content))) refl ok
  where
    by_block : (r : Result (List ℕ) Fault) → block_of (take block.len (drop block.offset content)) ≡ r → IsOk r → IsWhole file content offset
    by_block (Ok entries) is there = record {
      at = h.at;
      goes_on = h.goes_on;
      record_there = (record_found (signature_of (context_of file)) (drop h.at content) h.lies.front (Ok entries) h.lies.frame
          (ap block_of (sym (noted file content offset block h)) ∙ is)).0 entries refl;
    }
    by_block (Err f) is there = absurd (false≢true there)

pub torn_block : (file : OpenFile) (content : List ℕ) (offset : ℕ) (block : FileBlockHandle) (f : Fault) → HasBlock file content offset block → block_of (take block.len (drop block.offset content)) ≡ Err f → IsRecordTorn file content offset f
torn_block file content offset block f h is = record {
  at = h.at;
  goes_on = h.goes_on;
  inside = frame_inside (signature_of (context_of file)) h.at content h.lies.front h.lies.frame;
  wrong = (record_found (signature_of (context_of file)) (drop h.at content) h.lies.front (Err f) h.lies.frame
      (ap block_of (sym (noted file content offset block h)) ∙ is)).1 f refl;
}

-- where the frame is broken the record is
broken_record : (signature : Option ℕ) (input : List ℕ) (f : Fault) → frame_at signature input ≡ Err f → record_at signature input ≡ Err f
unfolding record_at
broken_record signature input f e = rw e refl

broken_frame : (file : OpenFile) (at : ℕ) (content : List ℕ) (f : Fault) → batch_at (context_of file) at content ≡ Err f → frame_at (signature_of (context_of file)) (drop at content) ≡ Err f
unfolding batch_at
broken_frame file at content f e = by_frame (frame_at (signature_of (context_of file)) (drop at content)) refl
  where
    by_frame : (r : Result Front Fault) → frame_at (signature_of (context_of file)) (drop at content) ≡ r → frame_at (signature_of (context_of file)) (drop at content) ≡ Err f
    by_frame (Ok front) is = let there = rw is at e in absurd cc
    by_frame (Err other) is = let there = rw is at e in let same : other ≡ f = cc in is ∙ ap (λ (x : Fault). Err x) same

pub broken_is_torn : (file : OpenFile) (content : List ℕ) (offset : ℕ) (f : Fault) → IsBroken file content offset f → IsRecordTorn file content offset f
broken_is_torn file content offset f b = record {
  at = b.at;
  goes_on = b.goes_on;
  inside = b.inside;
  wrong = broken_record (signature_of (context_of file)) (drop b.at content) f (broken_frame file b.at content f b.frame);
}

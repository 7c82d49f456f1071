-- The steps of an inspection: it lists directories, and reads files one after another.
use Rattle.std.specs.Prelude.{◌≡◌, ◌↔◌, ◌-◌, ℕ, None, Option, List, [], map, String, Vec, IsTrue, length, min, take, drop}
use Rattle.std.specs.declared.alloc.Global.{Global}
use Rattle.std.specs.List.{AllZip}
use Rattle.std.specs.List.Sorted.{IsPermutation}
use Rattle.std.specs.String.{string_bytes}
use Rattle.raft_log_record_base.specs.declared.pipe_log.LogQueue.{LogQueue}
use Rattle.raft_log_fs.specs.Disk.{Disk}
use Rattle.raft_log_fs.specs.Reading.{IsListing}
use Rattle.raft_log_replay.specs.Machines.{Batch}
use Rattle.raft_log_replay.specs.Segments.{all_batches}
use Rattle.raft_log_recovery_scan.specs.Found.{AreFilesIn}
use Rattle.raft_log_recovery_scan.specs.declared.file_kind.FileKind.{FileKind}
use Rattle.raft_log_recovery_scan.specs.declared.scanning.found.FoundFile.{FoundFile}
use Rattle.raft_log_recovery_read.specs.Batches.{TakesBatches}
use Rattle.raft_log_inspection.specs.Intact.{AreZeros, IsIntactFile}
use Rattle.raft_log_inspection.specs.declared.damage.Damage.{Damage}
use Rattle.raft_log_inspection.specs.declared.zeros.Piece.{Piece}

-- `piece` was read from a file with this content, from offset `at` on, at most `room` bytes; `has_zeros` says whether
-- all its bytes are zeros
pub record IsPieceOf (content : List ℕ) (at room : ℕ) (piece : Piece) : Type 0 where
  pub number : piece.count ≡ min room (length content - at)
  pub zeros : IsTrue piece.has_zeros ↔ AreZeros (take piece.count (drop at content))

-- the names of the files in each directory, in the order of the directories
abbrev pub AreListed : List (String Global) → Disk → List (Vec (String Global) Global) → Type 0
AreListed paths d listings =
    AllZip (λ path names. IsListing (string_bytes path) d (map string_bytes names.items)) paths listings

-- `files` are the files of this kind in these directories, in some order
pub record AreOrderedFiles (kind : FileKind) (directories : List (List ℕ)) (d : Disk) (files : List FoundFile)
    : Type 0 where
  pub found : List FoundFile
  pub all : AreFilesIn kind directories d found
  pub same : IsPermutation found files

-- The records of a file were passed to a replay machine, which was `old` before and is `new` after. If no damage was
-- found, the file is intact, and `batches` are its records.
pub record HandsFile {M : Type 0} (reads : List Batch → M → Type 0) (queue : LogQueue)
    (directories : List (List ℕ)) (d : Disk) (newest : ℕ) (file : FoundFile) (old new : M)
    (damage : Option Damage) : Type 0 where
  pub batches : List Batch
  pub taken : TakesBatches reads batches old new
  pub intact : damage ≡ None → IsIntactFile queue directories d newest file batches

-- The records of these files were passed to a replay machine (`old`, then `new`). If no damage was found, the files are
-- intact, and `segments` are their records, file by file.
pub record HandsFiles {M : Type 0} (reads : List Batch → M → Type 0) (queue : LogQueue)
    (directories : List (List ℕ)) (d : Disk) (newest : ℕ) (files : List FoundFile) (old new : M)
    (damages : List Damage) : Type 0 where
  pub segments : List (List Batch)
  pub taken : TakesBatches reads (all_batches segments) old new
  pub intact : damages ≡ [] → AllZip (IsIntactFile queue directories d newest) files segments

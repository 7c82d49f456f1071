-- Log files without damage and without gaps in their numbers, and what an inspection of a log finds.
use Rattle.std.specs.Prelude.{◌≡◌, ◌≤◌, ◌⊎◌, ◌==◌, ℕ, Bool, true, Option, Some, None, List, [], All, drop, unwrap_or}
use Rattle.std.specs.List.{AllZip}
use Rattle.std.specs.List.Sorted.{IsPermutation}
use Rattle.raft_log_record_base.specs.declared.errors.Error.{Error}
use Rattle.raft_log_record_base.specs.declared.pipe_log.LogQueue.{LogQueue}
use Rattle.raft_log_record_base.specs.declared.pipe_log.LogQueue.TheVariants as queues
use Rattle.raft_log_record_base.specs.declared.pipe_log.FileId.{FileId}
use Rattle.raft_log_fs.specs.Disk.{Disk}
use Rattle.raft_log_file_reader.specs.Source.{bytes_in}
use Rattle.raft_log_replay.specs.Machines.{Batch}
use Rattle.raft_log_replay.specs.Segments.{all_batches}
use Rattle.raft_log_recovery_scan.specs.Found.{AreFilesIn, found_path}
use Rattle.raft_log_recovery_scan.specs.Runs.{IsConsecutive}
use Rattle.raft_log_recovery_scan.specs.declared.file_kind.FileKind.{FileKind}
use Rattle.raft_log_recovery_scan.specs.declared.file_kind.FileKind.TheVariants as kinds
use Rattle.raft_log_recovery_scan.specs.declared.scanning.found.FoundFile.{FoundFile}
use Rattle.raft_log_recovery_read.specs.Batches.{TakesBatches, said}
use Rattle.raft_log_recovery_read.specs.Reading.{FileReading, ReadsBytes}
use Rattle.raft_log_inspection.specs.declared.inspecting.QueueInspection.{QueueInspection}

-- the kind of file that a queue has
abbrev pub kind_of : LogQueue → FileKind
kind_of queues.Append = kinds.Append
kind_of queues.Rewrite = kinds.Rewrite

-- the identity of the file in the log: its queue and number
abbrev pub id_of : LogQueue → FoundFile → FileId
id_of queue file = record { queue = queue; seq = file.seq }

-- all these bytes are zeros
abbrev pub AreZeros : List ℕ → Type 0
AreZeros bytes = All (λ byte. byte ≡ 0) bytes

-- A file that was read up to `end` (`None` if it has no header) is undamaged. Either no fault was found, or the file is
-- its queue's last one (`last`) and has only zeros from `end` on: space that was allocated ahead of the records.
abbrev pub IsUndamaged : Bool → List ℕ → Option ℕ → Option Error → Type 0
IsUndamaged last content end fault =
    (fault ≡ None) ⊎ ((last ≡ true) × AreZeros (drop (unwrap_or end 0) content))

-- The file is intact: it reads as a header and then these batches, each in a whole record with its entry block, and is
-- undamaged (`IsUndamaged`). `newest` is the number of the queue's last file. In that file, the header may be missing.
pub record IsIntactFile (queue : LogQueue) (directories : List (List ℕ)) (d : Disk) (newest : ℕ) (file : FoundFile)
    (batches : List Batch) : Type 0 where
  pub node : ℕ
  pub named : d.names (found_path (kind_of queue) directories file) ≡ Some node
  pub read : FileReading
  pub reads : ReadsBytes true (id_of queue file) (bytes_in (d.files node)) read
  pub undamaged : IsUndamaged (file.seq == newest) (bytes_in (d.files node)) read.end read.fault
  pub holds : batches ≡ said (id_of queue file) read.batches

-- The numbers of the queue's files in these directories are consecutive, and all files are intact. They have these
-- batches, file after file.
pub record IsIntactQueue (queue : LogQueue) (directories : List (List ℕ)) (d : Disk) (batches : List Batch)
    : Type 0 where
  pub found : List FoundFile
  pub all : AreFilesIn (kind_of queue) directories d found
  pub files : List FoundFile
  pub same : IsPermutation found files
  pub consecutive : IsConsecutive files
  pub newest : ℕ
  pub highest : All (λ file. file.seq ≤ newest) files
  pub segments : List (List Batch)
  pub intact : AllZip (IsIntactFile queue directories d newest) files segments
  pub joined : batches ≡ all_batches segments

-- the inspection found no gap in the file numbers and no damage
abbrev pub IsClean : QueueInspection → Type 0
IsClean inspection = (inspection.gaps.items ≡ []) × (inspection.damages.items ≡ [])

-- A queue was inspected. A replay machine took `batches`: it was `old` before and is `new` after. If the inspection
-- found nothing wrong, the queue is intact, and `batches` are all its records.
pub record InspectsQueue {M : Type 0} (reads : List Batch → M → Type 0) (queue : LogQueue)
    (directories : List (List ℕ)) (d : Disk) (old new : M) (inspection : QueueInspection) : Type 0 where
  pub batches : List Batch
  pub taken : TakesBatches reads batches old new
  pub intact : IsClean inspection → IsIntactQueue queue directories d batches

-- The files `files` of a queue that were found on disk `d`: the batches that each contains, and why reading one fails
-- in the recovery mode `mode`.
use Rattle.std.specs.Prelude.{◌≡◌, ℕ, ◌-◌, ◌<◌, Bool, List, ◌++◌, length, slice_index_or, ◌==◌, is_some}
use Rattle.raft_log_record_base.specs.declared.errors.Error.{Error}
use Rattle.raft_log_record_base.specs.declared.pipe_log.FileId.{FileId}
use Rattle.raft_log_record_base.specs.declared.pipe_log.LogQueue.{LogQueue}
use Rattle.raft_log_fs.specs.Disk.{Disk}
use Rattle.raft_log_file_settings.specs.declared.recovery_mode.RecoveryMode.{RecoveryMode}
use Rattle.raft_log_active_file.specs.declared.format.File.{File}
use Rattle.raft_log_recovery_read.specs.Tolerance.{FailsToReadFound, ReadsFound}
use Rattle.raft_log_recovery_read.specs.Reading.{FileReading}
use Rattle.raft_log_replay.specs.Machines.{Batch}
use Rattle.raft_log_recovery_read.specs.Batches.{said}
use Rattle.raft_log_recovery_read.specs.Handed.{WasHanded}
use Rattle.raft_log_recovery_read.specs.declared.found_file.FoundFile.{FoundFile}
use Rattle.raft_log_recovery_read.specs.declared.file_ending.FileEnding.{FileEnding}

-- whether the file at position `index` is the last one
abbrev pub is_at_end : List File → ℕ → Bool
is_at_end files index = length files - index == 1

-- the identity of the file in the log: its queue and number
abbrev pub id_of : LogQueue → File → FileId
id_of queue file = record { queue = queue; seq = file.seq }

-- `file` is at position `index` of its queue's files, and `read` is what it contains; its damage, if any, is tolerated
pub record ReadsAt (mode : RecoveryMode) (queue : LogQueue) (files : List File) (d : Disk) (index : ℕ)
    (file : File) (read : FileReading) : Type 0 where
  pub inside : index < length files
  pub is : (other : File) → file ≡ slice_index_or files index other
  pub reads : ReadsFound mode (is_at_end files index) (id_of queue file) file.handle d read

-- what a recovery keeps of a file with this content: the format, where the last good record ends, and whether the file
-- is damaged
pub record EndsAs (read : FileReading) (ending : FileEnding) : Type 0 where
  pub format : ending.format ≡ read.format
  pub end : ending.end ≡ read.end
  pub damaged : ending.is_damaged ≡ is_some read.fault

-- The file at position `index` contains these batches. `ending` has its format, where its last good record ends, and
-- whether it is damaged.
pub record HoldsFile (mode : RecoveryMode) (queue : LogQueue) (files : List File) (d : Disk) (index : ℕ)
    (batches : List Batch) (ending : FileEnding) : Type 0 where
  pub file : File
  pub read : FileReading
  pub reads : ReadsAt mode queue files d index file read
  pub holds : batches ≡ said (id_of queue file) read.batches
  pub ends : EndsAs read ending

-- the batches that the file at position `index` contains begin with these
pub record BeginsFile (mode : RecoveryMode) (queue : LogQueue) (files : List File) (d : Disk) (index : ℕ)
    (batches : List Batch) : Type 0 where
  pub file : File
  pub read : FileReading
  pub reads : ReadsAt mode queue files d index file read
  pub rest : List Batch
  pub begins : said (id_of queue file) read.batches ≡ batches ++ rest

-- reading the file at position `index` fails with `error`, for one of the reasons of `FailsToReadFound`
pub record RefusesFile (mode : RecoveryMode) (queue : LogQueue) (files : List File) (d : Disk) (index : ℕ)
    (error : Error) : Type 0 where
  pub file : File
  pub inside : index < length files
  pub is : (other : File) → file ≡ slice_index_or files index other
  pub refused : FailsToReadFound mode (is_at_end files index) (id_of queue file) file.handle d error

-- `found` is what was found of the file at position `index`. Its batches were passed to the machine `old`. It accepted
-- all of them, and is `new`, or rejected one (`WasHanded`).
pub record IsSegment {M : Type 0} (mode : RecoveryMode) (queue : LogQueue) (files : List File) (d : Disk)
    (index : ℕ) (takes : List Batch → M → Type 0) (declines : List Batch → Error → Type 0) (old new : M)
    (found : FoundFile) : Type 0 where
  pub file : File
  pub read : FileReading
  pub reads : ReadsAt mode queue files d index file read
  pub handed : WasHanded takes declines (id_of queue file) old new read found

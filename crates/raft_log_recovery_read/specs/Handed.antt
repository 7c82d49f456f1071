-- What a recovery found of a log file whose records it passed to a replay machine.
use Rattle.std.specs.Prelude.{◌≡◌, List}
use Rattle.raft_log_record_base.specs.declared.errors.Error.{Error}
use Rattle.raft_log_record_base.specs.declared.pipe_log.FileId.{FileId}
use Rattle.raft_log_replay.specs.Machines.{Batch}
use Rattle.raft_log_recovery_read.specs.Batches.{HasTaken, said}
use Rattle.raft_log_recovery_read.specs.Reading.{FileReading}
use Rattle.raft_log_recovery_read.specs.declared.found_file.FoundFile.{FoundFile}

-- `found` has the same format, end and fault as `reading`, the content of the file. The file's batches were passed to
-- the machine `old`. It accepted all of them, and is `new`, or rejected one (`HasTaken`).
pub record WasHanded {M : Type 0} (reads : List Batch → M → Type 0) (declines : List Batch → Error → Type 0)
    (id : FileId) (old new : M) (reading : FileReading) (found : FoundFile) : Type 0 where
  pub format : found.format ≡ reading.format
  pub end : found.end ≡ reading.end
  pub fault : found.fault ≡ reading.fault
  pub taken : HasTaken reads declines (said id reading.batches) old new found.declined

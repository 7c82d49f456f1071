-- Which damage of a log file each recovery mode tolerates. The file is `id` of the log, open under `handle` on disk
-- `d`, and `last` says whether the file is its queue's last.
use Rattle.std.specs.Prelude.{◌≡◌, ◌⊎◌, Bool, true, false, Option, Some, None}
use Rattle.raft_log_record_base.specs.declared.errors.Error.{Error}
use Rattle.raft_log_record_base.specs.declared.pipe_log.FileId.{FileId}
use Rattle.raft_log_fs.specs.Disk.{Disk}
use Rattle.raft_log_fs.specs.declared.handle.Handle.{Handle}
use Rattle.raft_log_file_settings.specs.declared.recovery_mode.RecoveryMode.{RecoveryMode}
use Rattle.raft_log_file_settings.specs.declared.recovery_mode.RecoveryMode.TheVariants.{AbsoluteConsistency, TolerateTailCorruption, TolerateAnyCorruption}
use Rattle.raft_log_file_reader.specs.Source.{bytes_in}
use Rattle.raft_log_recovery_read.specs.Foreign.{FailsToReadRecords, StopsAtNoForeign}
use Rattle.raft_log_recovery_read.specs.Naming.{NamesDamage}
use Rattle.raft_log_recovery_read.specs.Reading.{FileReading, ReadsFileAs}

-- whether this recovery mode tolerates damage in a file; `last` says whether the file is its queue's last
abbrev pub tolerates : RecoveryMode → Bool → Bool
tolerates AbsoluteConsistency last = false
tolerates TolerateTailCorruption last = last
tolerates TolerateAnyCorruption last = true

-- the file isn't damaged, or this recovery mode tolerates it
abbrev pub IsTolerated : RecoveryMode → Bool → Option Error → Type 0
IsTolerated mode last fault = (fault ≡ None) ⊎ (tolerates mode last ≡ true)

-- `read` is what the file contains. Its reading stops at no foreign record, and its damage, if any, is tolerated.
pub record ReadsFound (mode : RecoveryMode) (last : Bool) (id : FileId) (handle : Handle) (d : Disk)
    (read : FileReading) : Type 0 where
  pub reads : ReadsFileAs last id handle d read
  pub native : StopsAtNoForeign last id (bytes_in (d.files handle.file))
  pub tolerated : IsTolerated mode last read.fault

-- The file is damaged, and this recovery mode doesn't tolerate that. `error` names the file and the offset, and says
-- what is wrong. The file's reading doesn't stop at a foreign record.
pub record IsDamaged (mode : RecoveryMode) (last : Bool) (id : FileId) (handle : Handle) (d : Disk)
    (error : Error) : Type 0 where
  pub read : FileReading
  pub reads : ReadsFileAs last id handle d read
  pub native : StopsAtNoForeign last id (bytes_in (d.files handle.file))
  pub fault : Error
  pub is : read.fault ≡ Some fault
  pub names : NamesDamage id read.end fault error
  pub strict : tolerates mode last ≡ false

-- Why a recovery fails to read a file:
-- - it can't be read, or memory ran out
-- - its reading stops at a foreign record, whatever the mode
-- - it is damaged, and the mode doesn't tolerate that
abbrev pub FailsToReadFound : RecoveryMode → Bool → FileId → Handle → Disk → Error → Type 0
FailsToReadFound mode last id handle d error =
    FailsToReadRecords last id handle d error ⊎ IsDamaged mode last id handle d error

-- A log that is opened, changed and closed properly, and then opened again. This needs no premise on CRC collisions.
use Rattle.std.specs.Prelude.{◌≡◌, ◌⊎◌, ℕ, ◌+◌, Some, None, List, ◌++◌, length, Option}
use Rattle.raft_log_file_writer.specs.LawsChains.{AreFrames, Written, spelled}
use Rattle.raft_log_file_writer.specs.KeepsSynced.{IsHandedIn}
use Rattle.raft_log_file_writer.specs.LogFormat.{Format}
use Rattle.raft_log_file_pipe.specs.declared.pipe_files.PipeFiles.{PipeFiles}
use Rattle.raft_log_engine.specs.raft_log_fs.specs.Disk.{Disk, File}
use Rattle.raft_log_engine.specs.raft_log_fs.specs.Image.{IsSound}
use Rattle.raft_log_engine.specs.raft_log_file_settings.specs.declared.config.Config.{Config}
use Rattle.raft_log_engine.specs.raft_log_dual_pipes.specs.Pipes.{LogRecordValue}
use Rattle.raft_log_engine.specs.raft_log_engine_laws.specs.raft_log_active_file.specs.declared.record.LogRecord.{LogRecord}
use Rattle.raft_log_engine.specs.raft_log_engine_laws.specs.EngineState.{LogDirectories, LogMap, EngineState, log_in}
use Rattle.raft_log_engine.specs.raft_log_engine_laws.specs.Holding.{Represents}
use Rattle.raft_log_recovery_laws.specs.Bare.{IsBare}
use Rattle.raft_log_recovery_laws.specs.ByCalls.{home_of}
use Rattle.raft_log_recovery_laws.specs.Closed.{ClosesProperly}
use Rattle.raft_log_recovery_laws.specs.Running.{active_header, own_bytes}
use Rattle.raft_crash_examples.specs.declared.changing.KeyChange.{KeyChange}
use Rattle.raft_crash_examples.specs.Ending.{ClosesWithoutChance}
use Rattle.raft_crash_examples.specs.Keys.{value_behind}
use Rattle.raft_crash_examples.specs.Lives.{OpensAndChanges}

-- The log of these settings was opened, the changes were written durably, and the log was closed properly.
pub record ChangesAndCloses {F : Type 0} (disk : F → Disk) (tells : F → List ℕ → ℕ → Type 0) (config : Config)
    (changes : List KeyChange) (old left : F) : Type 0 where
  pub engine : EngineState
  pub sound : IsSound engine.pipes.disk
  pub changed : OpensAndChanges disk tells config changes old engine
  pub closes : ClosesProperly engine.pipes (disk left)

-- A log was opened, changed and closed twice: first with the changes `before`, then with `after`. Then `found` was read
-- at a key. Suppose that there was no log at first, and all settings name the same directories. Then `found` is the
-- value that the key has after all changes.
abbrev pub ReadsAllChanges : {F : Type 0} → (F → Disk) → (first second last : Config) → (before after : List KeyChange)
    → (group : ℕ) (key : List ℕ) (old : F) (found : Option (List ℕ)) → Type 0
ReadsAllChanges disk first second last before after group key old found = IsBare first (disk old)
    → home_of second ≡ home_of first → home_of last ≡ home_of first
    → found ≡ value_behind group key (before ++ after) None

-- `file` is the pipe's active file after a close. It has its header, then `own`, which are all records that the pipe
-- wrote to it, and then `foreign`, another record of this file. `foreign` wasn't passed to an unsynced write at its
-- offset.
pub record LeavesForeignBehind (F : Format LogRecord) (files : PipeFiles) (old new : Disk) : Type 0 where
  pub before : File
  pub was : old.files files.writer.handle.file ≡ Some before
  pub path : List ℕ
  pub at : F.IsPath files.active.seq path
  pub id : ℕ
  pub named : new.names path ≡ Some id
  pub file : File
  pub left : new.files id ≡ Some file
  pub own : List (Written LogRecord)
  pub frames : AreFrames (F.IsFrame files.active.seq (active_header files)) own
  pub wrote : own_bytes files before ≡ spelled own
  pub foreign : Written LogRecord
  pub is : F.IsFrame files.active.seq (active_header files) foreign.bytes foreign.value
  pub behind : List ℕ
  pub are : file.content ≡ active_header files ++ (spelled own ++ (foreign.bytes ++ behind))
  pub unhanded : IsHandedIn file.changes (length (active_header files) + length (spelled own)) foreign.bytes → ⊥

-- If a close leaves such a record in either queue (`LeavesForeignBehind`), there is a CRC collision. A close that fails
-- may leave such a record, in a recycled file.
abbrev pub ForeignRecordsBehindACloseAreChance : Type 0
ForeignRecordsBehindACloseAreChance = (home : LogDirectories) (e : EngineState) (m : LogMap)
    (pending : List LogRecordValue) → Represents home e m pending → (d : Disk)
    → LeavesForeignBehind (log_in home).append.format e.pipes.append.files e.pipes.disk d
    ⊎ LeavesForeignBehind (log_in home).rewrite.format e.pipes.rewrite.files e.pipes.disk d
    → ClosesWithoutChance home e.pipes d → ⊥

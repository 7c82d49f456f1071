-- Opening a log at rest by one call that does the whole open (`open_directory`). At rest, no engine has the log open,
-- and all of it is synced. A batch is pending if it was written but not synced yet.
use Rattle.std.specs.Prelude.{ℕ, ◌<◌, List, [], length}
use Rattle.raft_log_record_base.specs.declared.errors.Error.{Error}
use Rattle.raft_log_fs.specs.Disk.{Disk}
use Rattle.raft_log_fs.specs.Image.{IsSound}
use Rattle.raft_log_file_settings.specs.declared.config.Config.{Config}
use Rattle.raft_log_engine_laws.specs.raft_log_memtables.specs.declared.mem_tables.MemTables.{MemTables}
use Rattle.raft_log_dual_pipes.specs.OnDisk.{IsDurableAs}
use Rattle.raft_log_dual_pipes.specs.Pipes.{LogPipes, LogRecordValue}
use Rattle.raft_log_engine_laws.specs.EngineState.{log_in, LogDirectories, LogMap}
use Rattle.raft_log_engine_laws.specs.Holding.{IsRecoverableAs}
use Rattle.raft_log_open.specs.Opening.{FailsToOpenDirectory, OpensDirectory}
use Rattle.raft_log_recovery_laws.specs.Left.{IsCrashOf, RestsAfterSome}
use Rattle.raft_log_recovery_laws.specs.Opened.{HoldsFresh}
use Rattle.raft_log_recovery_laws.specs.ByCalls.{home_of, ForAllNaming}

-- If the open succeeds, the engine's log has the contents `m`, with nothing pending. If it fails, for any reason, the
-- log's files can be opened with the contents `m`. `old` is the file system's state before the open, and `disk` gives
-- the disk of a state.
pub record OpensAs {F : Type 0} (disk : F → Disk) (tells : F → List ℕ → ℕ → Type 0) (config : Config)
    (old : F) (m : LogMap) : Type 0 where
  pub answered : (v : LogPipes) (tables : MemTables) → OpensDirectory disk tells config old v tables
      → HoldsFresh (home_of config) v tables m
  pub refused : (error : Error) (new : F) → FailsToOpenDirectory disk tells config error old new
      → IsRecoverableAs (home_of config) (disk new) m []

-- Opening a log that is at rest with the contents `m` gives these contents. If the open fails, the log's files can be
-- opened with them.
abbrev pub RestingDirectoriesOpen : {F : Type 0} → (F → Disk) → (F → List ℕ → ℕ → Type 0) → Type 0
RestingDirectoriesOpen {F} disk tells = (config : Config) (old : F) (m : LogMap) → IsSound (disk old)
    → IsDurableAs (log_in (home_of config)) (disk old) m → OpensAs disk tells config old m

-- An engine left its log on disk `d`, and a crash then left the disk of `old`. An open gives the contents `m` after a
-- prefix of the pending batches. All settings that name the directories give the same prefix. This requires that the
-- crash image has no CRC collision.
abbrev pub CrashedDirectoriesOpen : {F : Type 0} → (F → Disk) → (F → List ℕ → ℕ → Type 0) → Type 0
CrashedDirectoriesOpen {F} disk tells = (home : LogDirectories) → 0 < length home.append → 0 < length home.rewrite
    → (d : Disk) (old : F) (m : LogMap) (pending : List LogRecordValue) → IsSound (disk old)
    → (left : IsRecoverableAs home d m pending) → IsCrashOf home left.1.lies.state d (disk old)
    → RestsAfterSome home (disk old) m pending
    (λ now. ForAllNaming home (λ config. OpensAs disk tells config old now))

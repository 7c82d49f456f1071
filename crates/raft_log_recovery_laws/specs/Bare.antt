-- Opening a log's directories for the first time. `disk` gives the disk of a file system's state. `tells` says which
-- numbers the file system may return as a directory's free space.
use Rattle.std.specs.Prelude.{◌≡◌, ◌⊎◌, ℕ, None, List, [], Contains}
use Rattle.raft_log_record_base.specs.declared.errors.Error.{Error}
use Rattle.raft_log_record_base.specs.declared.pipe_log.LogQueue.{LogQueue}
use Rattle.raft_log_record_base.specs.declared.pipe_log.LogQueue.TheVariants.{Append}
use Rattle.raft_log_fs.specs.Disk.{Disk}
use Rattle.raft_log_fs.specs.Image.{IsSound}
use Rattle.raft_log_file_format.specs.Name.{suffix_of}
use Rattle.raft_log_engine_laws.specs.raft_log_active_file.specs.Paths.{IsPathWith, reserved_suffix_of}
use Rattle.raft_log_machine_laws.specs.Fresh.{nothing_stands}
use Rattle.raft_log_file_settings.specs.declared.config.Config.{Config}
use Rattle.raft_log_engine_laws.specs.raft_log_memtables.specs.declared.mem_tables.MemTables.{MemTables}
use Rattle.raft_log_recovery_scan.specs.Directories.{IsFreePath}
use Rattle.raft_log_dual_pipes.specs.Pipes.{LogPipes}
use Rattle.raft_log_engine_laws.specs.Holding.{IsRecoverableAs}
use Rattle.raft_log_recovery.specs.Directories.{paths_of}
use Rattle.raft_log_open.specs.Opening.{FailsToOpenDirectory, OpensDirectory}
use Rattle.raft_log_recovery_laws.specs.Opened.{HoldsFresh}
use Rattle.raft_log_recovery_laws.specs.ByCalls.{home_of}

-- These directories have no log yet: no file and no directory has the path of a log file of either queue. No file is
-- kept there for recycling, and no file has the path of one of the directories. The directories may exist or not.
pub record IsBare (config : Config) (d : Disk) : Type 0 where
  pub numbered : (queue : LogQueue) (n : ℕ) (path : List ℕ)
      → IsPathWith (suffix_of queue) (paths_of config) n path → IsFreePath path d
  pub reserved : (n : ℕ) (path : List ℕ)
      → IsPathWith (reserved_suffix_of Append) (paths_of config) n path → d.names path ≡ None
  pub unnamed : (path : List ℕ) → Contains (paths_of config) path → d.names path ≡ None

-- An open with the settings `config`; `old` is the file system's state before it. If the open succeeds, the engine's
-- log is empty. If it fails, for any reason, either the directories still have no log, or their log is empty and can be
-- opened.
pub record OpensFirst {F : Type 0} (disk : F → Disk) (tells : F → List ℕ → ℕ → Type 0) (config : Config)
    (old : F) : Type 0 where
  pub answered : (v : LogPipes) (tables : MemTables) → OpensDirectory disk tells config old v tables
      → HoldsFresh (home_of config) v tables nothing_stands
  pub refused : (error : Error) (new : F) → FailsToOpenDirectory disk tells config error old new
      → IsBare config (disk new) ⊎ IsRecoverableAs (home_of config) (disk new) nothing_stands []

-- An open of directories without a log gives an engine with an empty log. If the open fails, the directories still have
-- no log, or have an empty one.
abbrev pub BareDirectoriesOpen : {F : Type 0} → (F → Disk) → (F → List ℕ → ℕ → Type 0) → Type 0
BareDirectoriesOpen {F} disk tells = (config : Config) (old : F) → IsSound (disk old)
    → IsBare config (disk old) → OpensFirst disk tells config old

-- What a fork (a copy of a log into another directory) does to the log that it copies.
use Rattle.std.specs.Prelude.{List, ℕ}
use Rattle.raft_log_record_base.specs.declared.errors.Error.{Error}
use Rattle.raft_log_fs.specs.Disk.{Disk}
use Rattle.raft_log_fs.specs.Image.{IsSound}
use Rattle.raft_log_file_settings.specs.Settings.{settings_of}
use Rattle.raft_log_file_settings.specs.declared.config.Config.{Config}
use Rattle.raft_log_dual_pipes.specs.OnDisk.{IsDurableAs}
use Rattle.raft_log_dual_pipes.specs.Pipes.{LogRecordValue}
use Rattle.raft_log_engine_laws.specs.EngineState.{log_in, LogMap}
use Rattle.raft_log_engine_laws.specs.Holding.{IsRecoverableAs}
use Rattle.raft_log_recovery_laws.specs.Bare.{IsBare}
use Rattle.raft_log_recovery_laws.specs.Keeping.{RestsStill}
use Rattle.raft_log_recovery_laws.specs.ByCalls.{home_of}
use Rattle.raft_log_offline.specs.Forks.{FailsToFork, Forks}

-- a fork of the log of these settings ended: it succeeded or failed
pub data EndsFork (config : Config) (target : List ℕ) (old new : Disk) : Type 0 where
  answered : (copied : List (List ℕ)) → Forks (settings_of config) target copied old new
      → EndsFork config target old new
  refused : (error : Error) → FailsToFork (settings_of config) target error old new
      → EndsFork config target old new

-- What a fork does to the log in the directories of these settings:
-- - `rests`: if the log was at rest, it still is, with the same files and records.
-- - `left`: if its files could be opened, they still can, with the same contents and the same pending batches.
-- - `bare`: if there was no log, there still is none.
pub record LeavesSource (config : Config) (old new : Disk) : Type 0 where
  pub rests : (m : LogMap) (h : IsDurableAs (log_in (home_of config)) old m)
      → RestsStill (log_in (home_of config)) old m h new
  pub left : (m : LogMap) (pending : List LogRecordValue) → IsRecoverableAs (home_of config) old m pending
      → IsRecoverableAs (home_of config) new m pending
  pub bare : IsBare config old → IsBare config new

-- However a fork ends, it leaves its source log unchanged, in the three ways of `LeavesSource`.
abbrev pub ForksLeaveTheSource : Type 0
ForksLeaveTheSource = (config : Config) (target : List ℕ) (old new : Disk) → IsSound old
    → EndsFork config target old new → LeavesSource config old new

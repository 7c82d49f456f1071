-- Forking a log that an engine left, without a crash or an open before the fork.
use Rattle.std.specs.Prelude.{ℕ, ◌<◌, List, length}
use Rattle.raft_log_fs.specs.Disk.{Disk}
use Rattle.raft_log_fs.specs.Image.{as_it_stands, IsSound}
use Rattle.raft_log_file_settings.specs.Settings.{settings_of}
use Rattle.raft_log_file_settings.specs.declared.config.Config.{Config}
use Rattle.raft_log_dual_pipes.specs.OnDisk.{IsDurableAs}
use Rattle.raft_log_dual_pipes.specs.Pipes.{LogRecordValue}
use Rattle.raft_log_engine_laws.specs.EngineState.{log_in, LogDirectories, LogMap}
use Rattle.raft_log_engine_laws.specs.Holding.{IsRecoverableAs}
use Rattle.raft_log_recovery_laws.specs.Left.{RestsAfterSome}
use Rattle.raft_log_recovery_laws.specs.ByCalls.{home_of, ForAllNaming}
use Rattle.raft_log_recovery_laws.specs.Directory.{OpensAs}
use Rattle.raft_log_recovery_laws.specs.InPlace.{OpensStanding, StandsWithoutChance}
use Rattle.raft_log_offline.specs.Forks.{Forks}
use Rattle.raft_log_recovery_laws.specs.ForkResting.{IsClear, NamesOnly}

-- The log that a fork made is at rest with the contents `m`, and an open with the settings `to` finds these contents.
-- `after` is the file system's state after the fork.
pub record ForkedAs {F : Type 0} (disk : F → Disk) (tells : F → List ℕ → ℕ → Type 0) (to : Config) (after : F)
    (m : LogMap) : Type 0 where
  pub rests : IsDurableAs (log_in (home_of to)) (disk after) m
  pub opens : OpensAs disk tells to after m

-- `old` is the state before a fork. Each fork of the log of `config` into a clear target (`IsClear`) makes a log with
-- the contents `m`. The fork is opened with the settings `to`, which name only the target.
abbrev pub IsForkedAs : {F : Type 0} → (F → Disk) → (F → List ℕ → ℕ → Type 0) → F → LogMap → Config → Type 0
IsForkedAs {F} disk tells old m config = (to : Config) (target : List ℕ) (copied : List (List ℕ)) (after : F)
    → IsSound (disk after) → NamesOnly to target → IsClear target (disk old)
    → Forks (settings_of config) target copied (disk old) (disk after) → ForkedAs disk tells to after m

-- An open in place and an open of any fork into a clear target both find the contents `now`. This holds for all
-- settings that name the log's directories.
pub record ShowsAlike {F : Type 0} (disk : F → Disk) (tells : F → List ℕ → ℕ → Type 0) (home : LogDirectories) (old : F)
    (m : LogMap) (pending : List LogRecordValue) (now : LogMap) : Type 0 where
  pub opens : ForAllNaming home (λ config. OpensStanding disk tells config old m pending now)
  pub forks : ForAllNaming home (IsForkedAs disk tells old now)

-- An engine that failed or was closed left a log. Its files are opened or forked as they are, synced or not. Both give
-- the contents `m` after the same prefix of the pending batches. This requires that there is no CRC collision in either
-- queue's active file.
abbrev pub LeftLogsShowAlike : {F : Type 0} → (F → Disk) → (F → List ℕ → ℕ → Type 0) → Type 0
LeftLogsShowAlike {F} disk tells = (home : LogDirectories) → 0 < length home.append → 0 < length home.rewrite
    → (old : F) (m : LogMap) (pending : List LogRecordValue) → IsSound (disk old)
    → (left : IsRecoverableAs home (disk old) m pending) → StandsWithoutChance home left.1.lies.state (disk old)
    → RestsAfterSome home (as_it_stands (disk old)) m pending (ShowsAlike disk tells home old m pending)

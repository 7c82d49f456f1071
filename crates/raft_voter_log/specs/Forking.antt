-- Copying the log of a store, and opening a store over the copy: laws, each the contract of an empty function. `old` is
-- the file system, or its disk, before a copy. `now`, `new` and `after` are the file system, or its disk, after the
-- copy. Voters are possible after a cut-off round if they took its requests before some position, without the refused
-- ones. `disk` gives the disk of a file system's state. `tells` says which sizes the file system may return as a
-- directory's free space.
use Rattle.std.specs.Prelude.{◌≡◌, ◌<◌, ℕ, List, length}
use Rattle.raft_log_fs.specs.Disk.{Disk}
use Rattle.raft_log_fs.specs.Image.{IsSound}
use Rattle.raft_log_file_settings.specs.Settings.{directories_of, settings_of}
use Rattle.raft_log_file_settings.specs.declared.config.Config.{Config}
use Rattle.raft_voter_durability_laws.specs.raft_log_engine_laws.specs.raft_log_dual_pipes.specs.OnDisk.{IsDurableAs}
use Rattle.raft_voter_durability_laws.specs.raft_log_engine_laws.specs.EngineState.{LogDirectories, LogMap, log_in}
use Rattle.raft_log_offline.specs.Forks.{Forks, LiesInOne}
use Rattle.raft_log_recovery_laws.specs.Bare.{IsBare}
use Rattle.raft_log_recovery_laws.specs.ByCalls.{ForAllNaming, home_of}
use Rattle.raft_log_recovery_laws.specs.ForkLeaving.{EndsFork}
use Rattle.raft_log_recovery_laws.specs.ForkResting.{IsClear, NamesOnly}
use Rattle.raft_log_recovery_laws.specs.InPlace.{StandsWithoutChance}
use Rattle.raft_voter.specs.Rounds.{World}
use Rattle.raft_voter.specs.Service.{CutRound, MayFollow}
use Rattle.raft_voter_records.specs.Voters.{Means}
use Rattle.raft_voter_durability_laws.specs.Standing.{IsLeftAmong, IsLeftWith}
use Rattle.raft_voter_log.specs.Opens.{FindsVoters}

-- The log of `config` on disk `old` was copied, with disk `now` after it; `to` are the copy's settings. An open of the
-- copy finds the voters of `W`. So does an open of the source, before the copy was made and after it.
pub record FindAlike {F : Type 0} (disk : F → Disk) (tells : F → List ℕ → ℕ → Type 0) (config to : Config)
    (old now : F) (W : World) : Type 0 where
  pub fork : FindsVoters disk tells to now W (λ X. X ≡ W)
  pub source : FindsVoters disk tells config now W (λ X. X ≡ W)
  pub before : FindsVoters disk tells config old W (λ X. X ≡ W)

-- Suppose the log of a store is at rest, and is copied into a clear directory (`IsClear`). Then opens of the copy and
-- of the source find the source's voters, as `FindAlike` says.
abbrev pub ForkedVotersAreFound : {F : Type 0} → (F → Disk) → (F → List ℕ → ℕ → Type 0) → Type 0
ForkedVotersAreFound {F} disk tells = (config to : Config) (target : List ℕ) (copied : List (List ℕ)) (old now : F)
    (m : LogMap) (W : World) → IsSound (disk old) → IsSound (disk now) → NamesOnly to target
    → IsClear target (disk old) → IsDurableAs (log_in (home_of config)) (disk old) m → Means m W
    → Forks (settings_of config) target copied (disk old) (disk now)
    → FindAlike disk tells config to old now W

-- An open of any copy of the log that `config` names finds the voters of `W`. The log is on disk `old`. The copy is
-- made in the clear directory `target` (`IsClear`), and its settings `to` name only that directory.
abbrev pub CopiesVoters : {F : Type 0} → (F → Disk) → (F → List ℕ → ℕ → Type 0) → F → World → Config → Type 0
CopiesVoters {F} disk tells old W config = (to : Config) (target : List ℕ) (copied : List (List ℕ)) (after : F)
    → IsSound (disk after) → NamesOnly to target → IsClear target (disk old)
    → Forks (settings_of config) target copied (disk old) (disk after)
    → FindsVoters disk tells to after W (λ X. X ≡ W)

-- A store left its log, closed or failed, and there was no crash. An open of the log and an open of a copy find the
-- same voters. These voters are possible after the round `cut`. They are the same for all settings that name the log's
-- directories. This requires that there is no CRC collision in the active files as they are.
abbrev pub LeftVotersAreCopied : {F : Type 0} → (F → Disk) → (F → List ℕ → ℕ → Type 0) → Type 0
LeftVotersAreCopied {F} disk tells = (home : LogDirectories) → 0 < length home.append → 0 < length home.rewrite → (old : F)
    (cut : CutRound) (left : IsLeftAmong home (disk old) (MayFollow cut)) → IsSound (disk old)
    → StandsWithoutChance home left.left.1.lies.state (disk old)
    → (W : World) × MayFollow cut W
    × ForAllNaming home (λ config. FindsVoters disk tells config old W (MayFollow cut))
    × ForAllNaming home (CopiesVoters disk tells old W)

-- Disk `new` still has what disk `old` has in the directories of these settings:
-- - `left`: files that can be opened, with voters that are possible after a round
-- - `alone`: files that can be opened, with the voters of one world
-- - `rests`: a log at rest, with the same contents
-- - `bare`: no log yet
pub record LeavesVoters (config : Config) (old new : Disk) : Type 0 where
  pub left : (cut : CutRound) → IsLeftAmong (home_of config) old (MayFollow cut)
      → IsLeftAmong (home_of config) new (MayFollow cut)
  pub alone : (W : World) → IsLeftWith (home_of config) old W → IsLeftWith (home_of config) new W
  pub rests : (m : LogMap) → IsDurableAs (log_in (home_of config)) old m
      → IsDurableAs (log_in (home_of config)) new m
  pub bare : IsBare config old → IsBare config new

-- Whether a copy succeeds or fails, the source keeps its voters, as `LeavesVoters` says.
abbrev pub ForksLeaveVoters : Type 0
ForksLeaveVoters = (config : Config) (target : List ℕ) (old new : Disk) → IsSound old
    → EndsFork config target old new → LeavesVoters config old new

-- A copy into one of the log's own directories, or into a path in one of them, fails, and nothing changes. The
-- directory for spilled files is one of the log's own.
abbrev pub OwnDirectoriesGetNoCopy : Type 0
OwnDirectoriesGetNoCopy = (config : Config) (target : List ℕ) (old new : Disk)
    → LiesInOne (directories_of (settings_of config)) target → EndsFork config target old new
    → ((copied : List (List ℕ)) → Forks (settings_of config) target copied old new → ⊥) × (new ≡ old)

-- Two opens of the same files give the same voters, even with different numbers of recovery threads. `disk` gives the
-- disk of a file system's state, and `tells` which sizes it may return as a directory's free space.
use Rattle.std.specs.Prelude.{◌≡◌, ◌<◌, ℕ, List, length}
use Rattle.raft_log_fs.specs.Disk.{Disk}
use Rattle.raft_log_fs.specs.Image.{IsImage, IsSound}
use Rattle.raft_log_file_settings.specs.declared.config.Config.{Config}
use Rattle.raft_voter_durability_laws.specs.raft_log_engine_laws.specs.raft_log_dual_pipes.specs.OnDisk.{IsDurableAs}
use Rattle.raft_voter_durability_laws.specs.raft_log_engine_laws.specs.EngineState.{LogDirectories, LogMap, EngineState, log_in}
use Rattle.raft_log_recovery_laws.specs.Bare.{IsBare}
use Rattle.raft_log_recovery_laws.specs.ByCalls.{home_of}
use Rattle.raft_log_recovery_laws.specs.InPlace.{StandsWithoutChance}
use Rattle.raft_log_recovery_laws.specs.Left.{IsCrashOf}
use Rattle.raft_log_recovery_laws.specs.Running.{LeavesNoChance}
use Rattle.raft_voter_outline.specs.State.{State}
use Rattle.raft_voter.specs.Rounds.{World}
use Rattle.raft_voter.specs.Service.{CutRound, MayFollow}
use Rattle.raft_voter_records.specs.Voters.{Means}
use Rattle.raft_voter_durability_laws.specs.Standing.{AreOutlines, IsLeftAmong, Keeps}
use Rattle.raft_voter_recovery.specs.Reading.{ListsVoters}
use Rattle.raft_voter_store.specs.Opening.{OpensVoters}

-- What the files of a store may be, without a CRC collision in them:
-- - `bare`, `rests`: there is no log yet, or the log is at rest and stores voters.
-- - `of_running`: they are a crash image of a running store, between calls.
-- - `of_left`: they are a crash image of files that a close, a failure or a failed open had left.
-- - `left`: a close, a failure or a failed open left them, without a crash.
pub data AreAStores (home : LogDirectories) (d : Disk) : Type 0 where
  bare : (config : Config) → home_of config ≡ home → IsBare config d → AreAStores home d
  rests : (m : LogMap) (W : World) → IsDurableAs (log_in home) d m → Means m W → AreAStores home d
  of_running : (e : EngineState) (W : World) → Keeps home e W → IsImage e.pipes.disk d → LeavesNoChance home e.pipes d
      → AreAStores home d
  of_left : (before : Disk) (cut : CutRound) (left : IsLeftAmong home before (MayFollow cut))
      → IsCrashOf home left.left.1.lies.state before d → AreAStores home d
  left : (cut : CutRound) (left : IsLeftAmong home d (MayFollow cut))
      → StandsWithoutChance home left.left.1.lies.state d → AreAStores home d

-- The engines `s` and `t` store the same voters. Both `os` and `us` are the outlines of these voters, and the engines'
-- lists of voters are equal.
pub record AreAlike (home : LogDirectories) (s t : EngineState) (os us : ℕ → State) : Type 0 where
  pub world : World
  pub first : Keeps home s world × AreOutlines os world
  pub second : Keeps home t world × AreOutlines us world
  pub listed : (voters others : List (ℕ × State)) → ListsVoters s voters → ListsVoters t others → voters ≡ others

-- Suppose two opens of the same files `old` succeed, and the files are as `AreAStores` says. Then the two stores are
-- alike. The settings `one` and `other` need only name the same directories. `s` and `os` are of the first store, `t`
-- and `us` of the second.
abbrev pub WorkersOpenAlike : {F : Type 0} → (F → Disk) → (F → List ℕ → ℕ → Type 0) → Type 0
WorkersOpenAlike {F} disk tells = (home : LogDirectories) → 0 < length home.append → 0 < length home.rewrite → (old : F)
    → IsSound (disk old) → AreAStores home (disk old) → (one other : Config) → home_of one ≡ home
    → home_of other ≡ home → (s t : EngineState) (os us : ℕ → State) → OpensVoters disk tells one old s os
    → OpensVoters disk tells other old t us → AreAlike home s t os us

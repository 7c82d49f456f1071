-- A store whose log was closed properly. Its files have no CRC collision, neither as they are nor after a crash. `disk`
-- gives the disk of a file system's state, and `tells` which sizes it may return as a directory's free space.
use Rattle.std.specs.Prelude.{◌≡◌, ℕ, List}
use Rattle.raft_log_fs.specs.Disk.{Disk}
use Rattle.raft_log_fs.specs.Image.{IsSound}
use Rattle.raft_log_file_settings.specs.declared.config.Config.{Config}
use Rattle.raft_voter_durability_laws.specs.raft_log_engine_laws.specs.raft_log_dual_pipes.specs.OnDisk.{IsDurableAs}
use Rattle.raft_voter_durability_laws.specs.raft_log_engine_laws.specs.EngineState.{EngineState, LogDirectories, LogMap, log_in}
use Rattle.raft_log_recovery_laws.specs.ByCalls.{ForAllNaming, home_of}
use Rattle.raft_log_recovery_laws.specs.Closed.{ClosesProperly, IsThatOrItsImage}
use Rattle.raft_voter.specs.Rounds.{World}
use Rattle.raft_voter.specs.Service.{CutRound, MayFollow, uncut}
use Rattle.raft_voter_records.specs.Voters.{Means}
use Rattle.raft_voter_durability_laws.specs.Standing.{Keeps}
use Rattle.raft_voter_log.specs.Leaving.{FilesLeave, SparesFiles}
use Rattle.raft_voter_log.specs.Opens.{FindsVoters}

-- The files have voters that are possible after the round `cut`. They meet the premise on CRC collisions
-- (`SparesFiles`), both as they are and in each crash image.
abbrev pub AskNothing : Config → Disk → CutRound → Type 0
AskNothing config d cut = (known : FilesLeave config d cut) × ((read : Disk) → SparesFiles config d cut known read)

-- If a log at rest stores voters that are possible after the round `cut`, its files are as `AskNothing` says.
abbrev pub RestingVotersAskNothing : Type 0
RestingVotersAskNothing = (config : Config) (d : Disk) (cut : CutRound) (m : LogMap) (W : World) → IsSound d
    → IsDurableAs (log_in (home_of config)) d m → Means m W → MayFollow cut W → AskNothing config d cut

-- If the log of a running store is closed properly, its files have the store's voters. They meet the premise on CRC
-- collisions, as `AskNothing` says.
abbrev pub ClosedStoresMeetThePremise : Type 0
ClosedStoresMeetThePremise = (config : Config) (s : EngineState) (W : World) (d : Disk) → IsSound s.pipes.disk
    → Keeps (home_of config) s W → ClosesProperly s.pipes d → AskNothing config d (uncut W)

-- The log of a running store was closed properly, and maybe there was a crash after that. Then an open finds the voters
-- that the store had. This is true for all settings that name the directories, and needs no premise on CRC collisions.
abbrev pub ClosedStoresAreFound : {F : Type 0} → (F → Disk) → (F → List ℕ → ℕ → Type 0) → Type 0
ClosedStoresAreFound {F} disk tells = (home : LogDirectories) (s : EngineState) (W : World) (d : Disk) (old : F)
    → IsSound s.pipes.disk → IsSound (disk old) → Keeps home s W → ClosesProperly s.pipes d
    → IsThatOrItsImage d (disk old) → ForAllNaming home (λ config. FindsVoters disk tells config old W (λ X. X ≡ W))

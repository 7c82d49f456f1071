-- Which voters an open finds: laws, each the contract of an empty function. Voters are possible after a cut-off round
-- if they took its requests before some position, without the refused ones. `disk` gives the disk of a file system's
-- state, and `tells` which sizes it may return as a directory's free space.
use Rattle.std.specs.Prelude.{◌≡◌, ◌<◌, ℕ, List, length}
use Rattle.raft_log_fs.specs.Disk.{Disk}
use Rattle.raft_log_fs.specs.Image.{IsImage, IsSound}
use Rattle.raft_log_file_settings.specs.declared.config.Config.{Config}
use Rattle.raft_voter_durability_laws.specs.raft_log_engine_laws.specs.raft_log_dual_pipes.specs.OnDisk.{IsDurableAs}
use Rattle.raft_voter_durability_laws.specs.raft_log_engine_laws.specs.EngineState.{LogDirectories, LogMap, EngineState, log_in}
use Rattle.raft_log_recovery_laws.specs.Bare.{IsBare}
use Rattle.raft_log_recovery_laws.specs.ByCalls.{ForAllNaming, home_of}
use Rattle.raft_log_recovery_laws.specs.InPlace.{StandsWithoutChance}
use Rattle.raft_log_recovery_laws.specs.Left.{IsCrashOf}
use Rattle.raft_log_recovery_laws.specs.Running.{LeavesNoChance}
use Rattle.raft_voter.specs.Rounds.{World}
use Rattle.raft_voter.specs.Service.{CutRound, MayFollow}
use Rattle.raft_voter_records.specs.Voters.{Means}
use Rattle.raft_voter_durability_laws.specs.Standing.{IsLeftAmong, Keeps}
use Rattle.raft_voter_log.specs.Opens.{BeginsVoters, FindsVoters}

-- An open of directories without a log gives fresh voters.
abbrev pub FirstOpensAreFresh : {F : Type 0} → (F → Disk) → (F → List ℕ → ℕ → Type 0) → Type 0
FirstOpensAreFresh {F} disk tells = (config : Config) (old : F) → IsSound (disk old) → IsBare config (disk old)
    → BeginsVoters disk tells config old

-- An open of a log at rest finds the voters that its contents store.
abbrev pub RestingVotersAreFound : {F : Type 0} → (F → Disk) → (F → List ℕ → ℕ → Type 0) → Type 0
RestingVotersAreFound {F} disk tells = (config : Config) (old : F) (m : LogMap) (W : World) → IsSound (disk old)
    → IsDurableAs (log_in (home_of config)) (disk old) m → Means m W
    → FindsVoters disk tells config old W (λ X. X ≡ W)

-- A running store crashed between calls. An open of the image finds the voters that the store's log stored. This is
-- true for all settings that name the directories. It requires that there is no CRC collision in the image.
abbrev pub CrashedStoresAreFound : {F : Type 0} → (F → Disk) → (F → List ℕ → ℕ → Type 0) → Type 0
CrashedStoresAreFound {F} disk tells = (home : LogDirectories) (e : EngineState) (W : World) → Keeps home e W → (old : F)
    → IsSound (disk old) → IsImage e.pipes.disk (disk old) → LeavesNoChance home e.pipes (disk old)
    → ForAllNaming home (λ config. FindsVoters disk tells config old W (λ X. X ≡ W))

-- A store left its log, closed or failed, and then there was a crash. An open of the image finds voters that are
-- possible after the round `cut`. They are the same for all settings that name the directories, so for any number of
-- recovery threads. This requires that there is no CRC collision.
abbrev pub CrashedVotersAreFound : {F : Type 0} → (F → Disk) → (F → List ℕ → ℕ → Type 0) → Type 0
CrashedVotersAreFound {F} disk tells = (home : LogDirectories) → 0 < length home.append → 0 < length home.rewrite
    → (d : Disk) (cut : CutRound) (left : IsLeftAmong home d (MayFollow cut)) (old : F) → IsSound (disk old)
    → IsCrashOf home left.left.1.lies.state d (disk old)
    → (W : World) × MayFollow cut W
    × ForAllNaming home (λ config. FindsVoters disk tells config old W (λ X. X ≡ W))

-- A store left its log, closed or failed, and the log is opened without a crash before. The open finds voters that are
-- possible after the round `cut`, the same for all settings that name the directories. If the open fails, the log's
-- files can still be opened, and their voters are still possible after `cut`. This requires that there is no CRC
-- collision in the active files as they are.
abbrev pub LeftVotersAreFound : {F : Type 0} → (F → Disk) → (F → List ℕ → ℕ → Type 0) → Type 0
LeftVotersAreFound {F} disk tells = (home : LogDirectories) → 0 < length home.append → 0 < length home.rewrite → (old : F)
    (cut : CutRound) (left : IsLeftAmong home (disk old) (MayFollow cut)) → IsSound (disk old)
    → StandsWithoutChance home left.left.1.lies.state (disk old)
    → (W : World) × MayFollow cut W
    × ForAllNaming home (λ config. FindsVoters disk tells config old W (MayFollow cut))

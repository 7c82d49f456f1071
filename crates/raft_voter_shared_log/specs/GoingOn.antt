-- A store that threads shared is closed, and its log is opened again, after a crash or without one. Voters are possible
-- after a cut-off round if they took its requests before some position, without the refused ones.
use Rattle.std.specs.Prelude.{◌≡◌, ℕ, List}
use Rattle.raft_log_fs.specs.Disk.{Disk}
use Rattle.raft_log_fs.specs.Image.{IsSound}
use Rattle.raft_voter_durability_laws.specs.raft_log_engine_laws.specs.EngineState.{LogDirectories, EngineState}
use Rattle.raft_log_recovery_laws.specs.ByCalls.{ForAllNaming, home_of}
use Rattle.raft_log_recovery_laws.specs.InPlace.{StandsWithoutChance}
use Rattle.raft_log_recovery_laws.specs.Left.{IsCrashOf}
use Rattle.raft_log_file_settings.specs.declared.config.Config.{Config}
use Rattle.raft_voter.specs.Rounds.{World}
use Rattle.raft_voter.specs.Service.{CutRound, MayFollow}
use Rattle.raft_voter_durability_laws.specs.Standing.{IsLeftAmong}
use Rattle.raft_voter_log.specs.Opens.{FindsVoters}
use Rattle.raft_voter_store.specs.Service.{LeavesAt}
use Rattle.raft_voter_log.specs.Instance.{ClosesStore}

-- A log was left on disk `d` (`left`), with voters that are possible after the round `cut`, and a crash made the image
-- `old`. An open of the image finds such voters, the same for all settings that name the directories `home`. This
-- requires that there is no CRC collision in the image.
abbrev pub GoesOnBehindACrash :
    {F : Type 0} → (F → Disk) → (F → List ℕ → ℕ → Type 0) → (home : LogDirectories) (d : Disk) (cut : CutRound)
    → IsLeftAmong home d (MayFollow cut) → Type 0
GoesOnBehindACrash {F} disk tells home d cut left = (old : F) → IsSound (disk old)
    → IsCrashOf home left.left.1.lies.state d (disk old)
    → (W : World) × MayFollow cut W × ForAllNaming home (λ config. FindsVoters disk tells config old W (λ X. X ≡ W))

-- A log was left in the files `closed`, with voters that are possible after the round `cut`, and is opened in place.
-- The open finds such voters, the same for all settings that name the directories `home`. This requires that there is
-- no CRC collision in the active files as they are.
abbrev pub GoesOnInPlace :
    {F : Type 0} (disk : F → Disk) → (F → List ℕ → ℕ → Type 0) → (home : LogDirectories) (closed : F) (cut : CutRound)
    → IsLeftAmong home (disk closed) (MayFollow cut) → Type 0
GoesOnInPlace disk tells home closed cut left =
    IsSound (disk closed) → StandsWithoutChance home left.left.1.lies.state (disk closed)
    → (W : World) × MayFollow cut W
    × ForAllNaming home (λ config. FindsVoters disk tells config closed W (MayFollow cut))

-- A store, which runs or has failed, left voters that are possible after the round `cut`, and was closed. Then its
-- files can be opened with such voters. Opens find such voters both after a crash and in place, unless there is a CRC
-- collision.
abbrev pub ClosedStoresGoOn : {F : Type 0} → (F → Disk) → (F → List ℕ → ℕ → Type 0) → Type 0
ClosedStoresGoOn {F} disk tells = (config : Config) (s : EngineState) (closed : F) (cut : CutRound)
    → LeavesAt (home_of config) s cut → ClosesStore s (disk closed)
    → (left : IsLeftAmong (home_of config) (disk closed) (MayFollow cut))
    × GoesOnBehindACrash disk tells (home_of config) (disk closed) cut left
    × GoesOnInPlace disk tells (home_of config) closed cut left

-- What holds for a run, for a reader who checks that there was no CRC collision. This condition (`without_chance`) is
-- stated for a proof of what the files leave (`leaves`). The reader may choose another such proof after each moment.
use Rattle.std.specs.Prelude.{List, [], ◌∷◌, ◌++◌, IsSome}
use Rattle.raft_voter.specs.Rounds.{World, fresh_world}
use Rattle.raft_voter.specs.Service.{CutRound, IsOpenAt, MayFollow, Service, uncut}
use Rattle.raft_voter_world.specs.declared.event.Event.{Event}
use Rattle.raft_voter_world.specs.declared.report.WorldReport.{WorldReport}
use Rattle.raft_voter_world.specs.declared.storage.Storage.{Storage}
use Rattle.raft_voter_world.specs.declared.storage.Storage.TheVariants.{Closed, Open}
use Rattle.raft_voter_world.specs.Cuts.{AreLeast, cut_after, cut_by}
use Rattle.raft_voter_world.specs.History.{Happen, Moment}
use Rattle.raft_voter_world.specs.History.Moment.{opened, unread, fell, unopened, crashed, kept, answered, cut_off, idle}
use Rattle.raft_voter_world.specs.Run.{EndsWell, IsRun, Knows, moments_of}
use Rattle.raft_voter_world.specs.Stores.{Disk, Upkeep}

-- What holds for these moments, if `known` proves that an open of `storage` finds only voters that are possible after
-- `cut`. After each moment, the same holds for the next storage and cut-off round, and the reader goes on with any
-- proof of that. The rest is as in `Goes`: what opens show, `End` at the end, and nothing after a CRC collision.
abbrev pub GoesBy :
    {S F : Type 0}
    → (v : Service S) (d : Disk S F) → (Storage S F → CutRound → Type 0)
    → (storage : Storage S F) (cut : CutRound) → Knows v d storage cut → List (Moment S F) → Type 0
GoesBy v d End storage cut known [] = End storage cut
GoesBy v d End (Closed files) cut known (opened workers store voters place now ∷ ms) =
    d.without_chance files cut known files
    → IsSome place × ((W : World) × MayFollow cut W × IsOpenAt v now W
    × ((still : v.leaves now (uncut W)) → GoesBy v d End (Open now) (uncut W) still ms))
GoesBy v d End (Closed files) cut known (unread workers store now left ∷ ms) =
    d.without_chance files cut known files
    → (W : World) × MayFollow cut W × d.leaves left (uncut W)
    × ((still : d.leaves left (uncut W)) → GoesBy v d End (Closed left) (uncut W) still ms)
GoesBy v d End (Closed files) cut known (fell workers store gone left ∷ ms) =
    d.without_chance files cut known files
    → (W : World) × MayFollow cut W × d.leaves_under store (uncut W)
    × ((under : d.leaves_under store (uncut W)) → d.spares store (uncut W) under left
    → d.leaves left (uncut W) × ((still : d.leaves left (uncut W)) → GoesBy v d End (Closed left) (uncut W) still ms))
GoesBy v d End (Closed files) cut known (unopened workers cause back ∷ ms) =
    d.without_chance files cut known files
    → d.leaves back cut × ((still : d.leaves back cut) → GoesBy v d End (Closed back) cut still ms)
GoesBy v d End (Closed files) cut known (crashed gone left ∷ ms) =
    d.without_chance files cut known left
    → d.leaves left cut × ((still : d.leaves left cut) → GoesBy v d End (Closed left) cut still ms)
GoesBy v d End (Open store) cut known (crashed gone left ∷ ms) =
    d.leaves_under store cut
    × ((under : d.leaves_under store cut) → d.spares store cut under left
    → d.leaves left cut × ((still : d.leaves left cut) → GoesBy v d End (Closed left) cut still ms))
GoesBy v d End storage cut known (kept change now ∷ ms) =
    Knows v d now cut × ((still : Knows v d now cut) → GoesBy v d End now cut still ms)
GoesBy v d End (Open store) cut known (answered round now ∷ ms) =
    v.leaves now (cut_after cut round)
    × ((still : v.leaves now (cut_after cut round)) → GoesBy v d End (Open now) (cut_after cut round) still ms)
GoesBy v d End (Open store) cut known (cut_off round cause now ∷ ms) =
    v.leaves now (cut_by cause cut round)
    × ((still : v.leaves now (cut_by cause cut round)) → GoesBy v d End (Open now) (cut_by cause cut round) still ms)
GoesBy v d End (Closed files) cut known (idle round now ∷ ms) =
    d.leaves now cut × ((still : d.leaves now cut) → GoesBy v d End (Closed now) cut still ms)
GoesBy v d End storage cut known ms = ⊥

-- Suppose a history starts with files that store no voter, and its opens find the first fitting position. Then
-- `GoesBy` holds for its moments, and the history ends well (`EndsWell`).
abbrev pub AllGoBy : {S F : Type 0} → Service S → Upkeep S → Disk S F → Type 0
AllGoBy {S} {F} v u d =
    (files : F) (ms : List (Moment S F)) → Happen v u d (Closed files) ms → AreLeast (uncut fresh_world) ms
    → (known : d.leaves files (uncut fresh_world))
    → GoesBy v d (EndsWell v d ms) (Closed files) (uncut fresh_world) known ms

-- For each run that starts with files that store no voter, `GoesBy` holds, and the run ends well (`EndsWell`).
abbrev pub RunsGoBy : {S F : Type 0} → Service S → Upkeep S → Disk S F → Type 0
RunsGoBy {S} {F} v u d = (files : F) (events : List Event) (report : WorldReport F)
    → (run : IsRun v u d files events report) → (known : d.leaves files (uncut fresh_world))
    → GoesBy v d (EndsWell v d (moments_of run.turns ++ run.closing)) (Closed files) (uncut fresh_world)
    known (moments_of run.turns ++ run.closing)

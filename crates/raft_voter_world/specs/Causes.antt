-- Why each round of a run has its outcome, and why each purge succeeded or failed: a store did what its contract
-- allows.
use Rattle.std.specs.Prelude.{◌≡◌, ◌⊎◌, ◌++◌, false, List, [], ◌∷◌, Option, All}
use Rattle.raft_voter_messages.specs.declared.round.Round.{Round}
use Rattle.raft_voter.specs.Rounds.{World}
use Rattle.raft_voter.specs.Service.{IsOpenAt, Service}
use Rattle.raft_voter.specs.declared.service.Cause.{Cause}
use Rattle.raft_voter_world.specs.declared.event.Event.{Event}
use Rattle.raft_voter_world.specs.declared.faults.Purge.{Purge}
use Rattle.raft_voter_world.specs.declared.report.WorldReport.{WorldReport}
use Rattle.raft_voter_world.specs.declared.storage.Storage.{Storage}
use Rattle.raft_voter_world.specs.declared.storage.Storage.TheVariants.{Closed, Open}
use Rattle.raft_voter_world.specs.Cuts.{ServeSome}
use Rattle.raft_voter_world.specs.History.{EndsPurge, IsAnswered, IsCutOff, IsIdle, Moment, behind}
use Rattle.raft_voter_world.specs.History.Change.{purges}
use Rattle.raft_voter_world.specs.History.Moment.{answered, cut_off, idle, kept}
use Rattle.raft_voter_world.specs.Run.{IsRun, moments_of}
use Rattle.raft_voter_world.specs.Stores.{Disk, KeepsVoters, Upkeep}

-- moment `m` is among these moments, which begin at `storage`, and it happened to the storage `at`
abbrev pub HappenedTo : {S F : Type 0} → Moment S F → Storage S F → Storage S F → List (Moment S F) → Type 0
HappenedTo m at storage [] = ⊥
HappenedTo m at storage (n ∷ ms) = ((n ≡ m) × (storage ≡ at)) ⊎ HappenedTo m at (behind n) ms

-- in this run, with its closing, moment `m` happened to the storage `at`
abbrev pub IsOfRun :
    {S F : Type 0} (v : Service S) (u : Upkeep S) (d : Disk S F) (files : F) (events : List Event) (report : WorldReport F)
    → IsRun v u d files events report → Moment S F → Storage S F → Type 0
IsOfRun v u d files events report run m at = HappenedTo m at (Closed files) (moments_of run.turns ++ run.closing)

-- One of the moments that happened (`Happened`, with the storage before each) is this round:
-- - a store replied to the round, and may refuse the positions that were refused;
-- - or a store cut the round off for a cause that was possible, and the round did to the store what this cause allows;
-- - or the round was cut off while no store was open.
pub data HasItsCause {S F : Type 0} (v : Service S) (Happened : Moment S F → Storage S F → Type 0) (round : Round)
    : Type 0 where
  was_answered : (old new : S) → Happened (answered round new) (Open old) → IsAnswered v old round new
      → HasItsCause v Happened round
  was_cut_off : (old new : S) (cause : Cause) → Happened (cut_off round cause new) (Open old)
      → IsCutOff v old round cause new → HasItsCause v Happened round
  was_idle : (files : F) → Happened (idle round files) (Closed files) → IsIdle round → HasItsCause v Happened round

-- each round in the report of a run has its cause, as `HasItsCause` says
abbrev pub EachRoundHasItsCause : {S F : Type 0} → Service S → Upkeep S → Disk S F → Type 0
EachRoundHasItsCause {S} {F} v u d = (files : F) (events : List Event) (report : WorldReport F)
    → (run : IsRun v u d files events report)
    → All (HasItsCause v (IsOfRun v u d files events report run)) report.transcript.rounds

-- A purge of the storage `at` left the storage `now`. The open store `old` was purged, and is `new` afterwards. The
-- purge succeeded and did its work, or failed for the cause `refusal`, as its contract allows. `new` serves the voters
-- of `old`, unless `new` has failed.
pub record WasPurged {S F : Type 0} (v : Service S) (u : Upkeep S) (purge : Purge) (refusal : Option Cause)
    (at now : Storage S F) : Type 0 where
  pub old : S
  pub new : S
  pub before : at ≡ Open old
  pub behind : now ≡ Open new
  pub ends : EndsPurge v u purge refusal old new
  pub keeps : KeepsVoters v old new

-- Each purge of a run happened to an open store, and did what its contract allows. It kept the voters, unless the store
-- has failed after it.
abbrev pub EachPurgeHasItsCause : {S F : Type 0} → Service S → Upkeep S → Disk S F → Type 0
EachPurgeHasItsCause {S} {F} v u d = (files : F) (events : List Event) (report : WorldReport F)
    → (run : IsRun v u d files events report)
    → (purge : Purge) (refusal : Option Cause) (at now : Storage S F)
    → IsOfRun v u d files events report run (kept (purges purge refusal) now) at → WasPurged v u purge refusal at now

-- Suppose that whenever an open of a run read the voters, the store served those of some world. Then a store that is
-- open right before a moment of the run has failed, or serves the voters of some world.
abbrev pub StoresOfRunsServe : {S F : Type 0} → Service S → Upkeep S → Disk S F → Type 0
StoresOfRunsServe {S} {F} v u d = (files : F) (events : List Event) (report : WorldReport F)
    → (run : IsRun v u d files events report) → ServeSome v (moments_of run.turns)
    → (m : Moment S F) (store : S) → IsOfRun v u d files events report run m (Open store)
    → v.is_failed store ≡ false → (W : World) × IsOpenAt v store W

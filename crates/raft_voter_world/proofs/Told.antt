-- Each round of a run has its cause, and so has each purge.
use Rattle.std.proofs.Common.{List, [], ◌∷◌, ◌++◌, Option, refl, sym, subst, inl, inr}
use Rattle.std.specs.Prelude.{All}
use Rattle.std.proofs.lemmas.List.Elements.{All-append, All-cons, All-nil}
use Rattle.raft_voter_messages.specs.declared.round.Round.{Round}
use Rattle.raft_voter.specs.Service.{Service}
use Rattle.raft_voter.specs.declared.service.Cause.{Cause}
use Rattle.raft_voter_world.specs.declared.event.Left.{Left}
use Rattle.raft_voter_world.specs.declared.event.Event.{Event}
use Rattle.raft_voter_world.specs.declared.faults.Purge.{Purge}
use Rattle.raft_voter_world.specs.declared.report.WorldReport.{WorldReport}
use Rattle.raft_voter_world.specs.declared.storage.Storage.{Storage}
use Rattle.raft_voter_world.specs.declared.storage.Storage.TheVariants.{Closed, Open}
use Rattle.raft_voter_world.specs.declared.event.Left.TheVariants.{Last}
use Rattle.raft_voter_world.specs.History.{Happen, Happens, Keeps, Moment, Plays, behind, behind_all, left_from, rounds_in, rounds_of}
use Rattle.raft_voter_world.specs.History.Change.{purges}
use Rattle.raft_voter_world.specs.History.Moment.{opened, unread, fell, unopened, crashed, kept, answered, cut_off, idle}
use Rattle.raft_voter_world.specs.Run.{IsRun, moments_of}
use Rattle.raft_voter_world.specs.Stores.{Disk, Upkeep}
use Rattle.raft_voter_world.proofs.Joining.{happen_more}
use Rattle.raft_voter_world.specs.Causes.{EachPurgeHasItsCause, EachRoundHasItsCause, HappenedTo, HasItsCause, WasPurged}
use Rattle.raft_voter_world.specs.Causes.HasItsCause.{was_answered, was_cut_off, was_idle}

-- Rounds.

-- the round of a moment that is among some has its cause
one_has : {S F : Type 0} (v : Service S) (u : Upkeep S) (d : Disk S F) (Among : Moment S F → Storage S F → Type 0) (storage : Storage S F) (m : Moment S F)
    → Happens v u d storage m → Among m storage → All (HasItsCause v Among) (rounds_of m)
one_has v u d Among storage (opened workers store voters place now) h a = All-nil (HasItsCause v Among)
one_has v u d Among storage (unread workers store now files) h a = All-nil (HasItsCause v Among)
one_has v u d Among storage (fell workers store gone files) h a = All-nil (HasItsCause v Among)
one_has v u d Among storage (unopened workers cause files) h a = All-nil (HasItsCause v Among)
one_has v u d Among storage (crashed gone files) h a = All-nil (HasItsCause v Among)
one_has v u d Among storage (kept change now) h a = All-nil (HasItsCause v Among)
one_has v u d Among (Open store) (answered round now) h a = All-cons (HasItsCause v Among) round [] (was_answered store now a h) (All-nil (HasItsCause v Among))
one_has v u d Among (Closed files) (answered round now) h a = absurd h
one_has v u d Among (Open store) (cut_off round cause now) h a = All-cons (HasItsCause v Among) round [] (was_cut_off store now cause a h) (All-nil (HasItsCause v Among))
one_has v u d Among (Closed files) (cut_off round cause now) h a = absurd h
one_has v u d Among (Open store) (idle round files) h a = absurd h
one_has {S} {F} v u d Among (Closed old) (idle round files) h a =
    All-cons (HasItsCause v Among) round [] (was_idle files (subst (λ (f : F). Among (idle round files) (Closed f)) (sym h.1) a) h.0) (All-nil (HasItsCause v Among))

-- so have those of moments one behind another, of which each is among them
each_has : {S F : Type 0} (v : Service S) (u : Upkeep S) (d : Disk S F) (Among : Moment S F → Storage S F → Type 0) (storage : Storage S F) (ms : List (Moment S F))
    → Happen v u d storage ms → ((m : Moment S F) (at : Storage S F) → HappenedTo m at storage ms → Among m at) → All (HasItsCause v Among) (rounds_in ms)
each_has v u d Among storage [] h among = All-nil (HasItsCause v Among)
each_has v u d Among storage (m ∷ ms) h among =
    All-append (HasItsCause v Among) (rounds_of m) (rounds_in ms) (one_has v u d Among storage m h.0 (among m storage (inl (refl, refl))))
    (each_has v u d Among (behind m) ms h.1 (λ n at later. among n at (inr later)))

-- Moments of a run.

-- what happened among several happened to what was there
happened_to : {S F : Type 0} (v : Service S) (u : Upkeep S) (d : Disk S F) (m : Moment S F) (at storage : Storage S F) (ms : List (Moment S F))
    → Happen v u d storage ms → HappenedTo m at storage ms → Happens v u d at m
happened_to v u d m at storage [] h among = absurd among
happened_to {S} {F} v u d m at storage (n ∷ ms) h (inl (is, there)) =
    subst (λ (x : Storage S F). Happens v u d x m) there (subst (λ (x : Moment S F). Happens v u d storage x) is h.0)
happened_to v u d m at storage (n ∷ ms) h (inr later) = happened_to v u d m at (behind n) ms h.1 later

-- what was played happened
played_happened : {S F : Type 0} (v : Service S) (u : Upkeep S) (d : Disk S F) (gone : Left) (storage : Storage S F) (events : List Event) (turns : List (List (Moment S F)))
    → Plays v u d gone storage events turns → Happen v u d storage (moments_of turns)
played_happened v u d gone storage [] [] p = tt
played_happened v u d gone storage [] (ms ∷ turns) p = absurd p
played_happened v u d gone storage (e ∷ events) [] p = absurd p
played_happened v u d gone storage (e ∷ events) (ms ∷ turns) p =
    happen_more v u d storage ms (moments_of turns) p.1 (played_happened v u d (left_from e gone) (behind_all storage ms) events turns p.2)

-- and so did a whole run
pub run_happened : {S F : Type 0} (v : Service S) (u : Upkeep S) (d : Disk S F) (files : F) (events : List Event) (report : WorldReport F) (run : IsRun v u d files events report)
    → Happen v u d (Closed files) (moments_of run.turns ++ run.closing)
run_happened v u d files events report run =
    happen_more v u d (Closed files) (moments_of run.turns) run.closing (played_happened v u d Last (Closed files) events run.turns run.played) run.closed

pub each_round_has_its_cause : {S F : Type 0} (v : Service S) (u : Upkeep S) (d : Disk S F) → EachRoundHasItsCause v u d
each_round_has_its_cause {S} {F} v u d files events report run =
    let ms : List (Moment S F) = moments_of run.turns ++ run.closing in
    subst (λ (rounds : List Round). All (HasItsCause v (λ m at. HappenedTo m at (Closed files) ms)) rounds) (sym run.rounds)
    (each_has v u d (λ m at. HappenedTo m at (Closed files) ms) (Closed files) ms (run_happened v u d files events report run) (λ m at among. among))

-- Purges.

was_purged : {S F : Type 0} (v : Service S) (u : Upkeep S) (d : Disk S F) (purge : Purge) (refusal : Option Cause) (at now : Storage S F) → Keeps v u d (purges purge refusal) at now → WasPurged v u purge refusal at now
was_purged v u d purge refusal (Open old) (Open new) k = record { old = old; new = new; before = refl; behind = refl; ends = k.0; keeps = k.1 }
was_purged v u d purge refusal (Open old) (Closed new) k = absurd k
was_purged v u d purge refusal (Closed old) new k = absurd k

kept_purged : {S F : Type 0} (v : Service S) (u : Upkeep S) (d : Disk S F) (purge : Purge) (refusal : Option Cause) (at now : Storage S F) → Happens v u d at (kept (purges purge refusal) now) → WasPurged v u purge refusal at now
kept_purged v u d purge refusal (Open old) now h = was_purged v u d purge refusal (Open old) now h
kept_purged v u d purge refusal (Closed old) now h = was_purged v u d purge refusal (Closed old) now h

pub each_purge_has_its_cause : {S F : Type 0} (v : Service S) (u : Upkeep S) (d : Disk S F) → EachPurgeHasItsCause v u d
each_purge_has_its_cause v u d files events report run purge refusal at now among =
    kept_purged v u d purge refusal at now
    (happened_to v u d (kept (purges purge refusal) now) at (Closed files) (moments_of run.turns ++ run.closing) (run_happened v u d files events report run) among)

-- Rounds that lead from voters to voters, moment by moment.
use Rattle.std.proofs.Common.{◌≡◌, ℕ, ◌≤◌, Bool, false, not, IsTrue, List, [], ◌∷◌, length, ap, sym, subst, arith}
use Rattle.raft_voter_messages.specs.declared.reply.Reply.{Reply}
use Rattle.raft_voter_messages.specs.declared.round.Outcome.{Outcome}
use Rattle.raft_voter_messages.specs.declared.round.Outcome.TheVariants.{Answered, Cut}
use Rattle.raft_voter_messages.specs.declared.round.Round.{Round}
use Rattle.raft_voter.specs.Rounds.{World, ExplainsFrom, Leads, OutcomeHolds, after, after_rounds, are_rising, cuts_after, place_reached, replies_of, taken_below}
use Rattle.raft_voter.specs.Service.{CutRound, IsOpenAt, Service, uncut}
use Rattle.raft_voter.proofs.Public.{taken_none}
use Rattle.raft_voter_world.specs.declared.storage.Storage.{Storage}
use Rattle.raft_voter_world.specs.declared.storage.Storage.TheVariants.{Closed, Open}
use Rattle.raft_voter_world.specs.Cuts.{cuts_in, next_place}
use Rattle.raft_voter_world.specs.History.{Moment, rounds_in}
use Rattle.raft_voter_world.specs.Places.{world_at}

-- One round.

-- a round that was cut off at a place
pub cut_leads : (W X : World) (round : Round) (rounds : List Round) (place : ℕ) (cuts : List ℕ) → round.outcome ≡ Cut → IsTrue (are_rising 0 (length round.requests) round.refused) → place ≤ length round.requests
    → Leads (after W (taken_below round place)) rounds cuts X → Leads W (round ∷ rounds) (place ∷ cuts) X
cut_leads W X round rounds place cuts told rising within l = record {
  explained = (
    (rising, subst (λ (o : Outcome). OutcomeHolds o W round (place ∷ cuts)) (sym told) within),
    subst (λ (o : Outcome). ExplainsFrom (after W (taken_below round (place_reached o (length round.requests) (place ∷ cuts)))) rounds (cuts_after o (place ∷ cuts))) (sym told) l.explained,
  );
  reached = subst (λ (o : Outcome). after_rounds (after W (taken_below round (place_reached o (length round.requests) (place ∷ cuts)))) rounds (cuts_after o (place ∷ cuts)) ≡ X) (sym told) l.reached;
}

-- a round that was answered
pub answered_leads : (W X : World) (round : Round) (rounds : List Round) (replies : List Reply) (cuts : List ℕ) → round.outcome ≡ Answered replies → IsTrue (are_rising 0 (length round.requests) round.refused)
    → replies ≡ replies_of W round → Leads (after W (taken_below round (length round.requests))) rounds cuts X → Leads W (round ∷ rounds) cuts X
answered_leads W X round rounds replies cuts told rising given l = record {
  explained = (
    (rising, subst (λ (o : Outcome). OutcomeHolds o W round cuts) (sym told) given),
    subst (λ (o : Outcome). ExplainsFrom (after W (taken_below round (place_reached o (length round.requests) cuts))) rounds (cuts_after o cuts)) (sym told) l.explained,
  );
  reached = subst (λ (o : Outcome). after_rounds (after W (taken_below round (place_reached o (length round.requests) cuts))) rounds (cuts_after o cuts) ≡ X) (sym told) l.reached;
}

-- a round of which nothing was taken
pub idle_leads : (W X : World) (round : Round) (rounds : List Round) (cuts : List ℕ) → round.outcome ≡ Cut → round.refused ≡ [] → Leads W rounds cuts X → Leads W (round ∷ rounds) (0 ∷ cuts) X
idle_leads W X round rounds cuts told none l =
    let rising : IsTrue (are_rising 0 (length round.requests) round.refused) = ap (are_rising 0 (length round.requests)) none in
    let still : W ≡ after W (taken_below round 0) = sym (ap (after W) (taken_none round.requests 0 0 round.refused (omega arith))) in
    cut_leads W X round rounds 0 cuts told rising (omega arith) (subst (λ (V : World). Leads V rounds cuts X) still l)

-- Many moments.

-- a store is open that hasn't failed
abbrev pub is_alive : {S F : Type 0} → Service S → Storage S F → Bool
is_alive v (Closed files) = false
is_alive v (Open store) = not (v.is_failed store)

-- such a store serves the voters, and no round waits
abbrev pub Serving : {S F : Type 0} → Service S → Storage S F → CutRound → Type 0
Serving v (Closed files) cut = Unit {0}
Serving v (Open store) cut = v.is_failed store ≡ false → (cut ≡ uncut cut.before) × IsOpenAt v store cut.before

-- what comes leads from the voters behind the round that was cut off to these
pub record LeadsFrom {S F : Type 0} (v : Service S) (storage : Storage S F) (cut : CutRound) (ms : List (Moment S F)) (last : ℕ) (X : World) : Type 0 where
  pub within : is_alive v storage ≡ false → next_place last ms ≤ length cut.requests
  pub leads : Leads (world_at cut (next_place last ms)) (rounds_in ms) (cuts_in last ms) X

use Rattle.std.proofs.Common.{◌≡◌, ℕ, suc, ◌+◌, List, [], ◌∷◌, ◌++◌, length, take, drop, refl, ap, ◌∙◌, arith}
use Rattle.raft_voter_messages.specs.declared.round.Outcome.{Outcome}
use Rattle.raft_voter_messages.specs.declared.round.Outcome.TheVariants.{Answered, Cut}
use Rattle.raft_voter_messages.specs.declared.round.Round.{Round}
use Rattle.raft_voter.specs.Rounds.{World, after, after_round, taken_below, after_rounds, cuts_after, ExplainsFrom, OutcomeHolds, place_reached}
use Rattle.raft_voter.specs.Laws.{cut_count, cut_count_of, RoundsJoin, RoundsPart}

-- cuts that come after a round's own don't matter to it
outcome_more :
    (o : Outcome) (W : World) (r : Round) (size : ℕ) (cuts cuts' : List ℕ) → OutcomeHolds o W r cuts
    → OutcomeHolds o W r (cuts ++ cuts') × (place_reached o size (cuts ++ cuts') ≡ place_reached o size cuts)
    × (cuts_after o (cuts ++ cuts') ≡ cuts_after o cuts ++ cuts')
outcome_more (Answered replies) W r size cuts cuts' h = (h, refl, refl)
outcome_more Cut W r size [] cuts' h = absurd h
outcome_more Cut W r size (c ∷ cuts) cuts' h = (h, refl, refl)

pub explains_join :
    (W : World) (first later : List Round) (cuts cuts' : List ℕ) → ExplainsFrom W first cuts
    → ExplainsFrom (after_rounds W first cuts) later cuts' → ExplainsFrom W (first ++ later) (cuts ++ cuts')
explains_join W [] later cuts cuts' e l = rw e l
explains_join W (r ∷ rounds) later cuts cuts' e l =
    let more = outcome_more r.outcome W r (length r.requests) cuts cuts' e.0.1 in
    ((e.0.0, more.0), rw (more.1, more.2) (explains_join (after_round W r cuts) rounds later (cuts_after r.outcome cuts) cuts' e.1 l))

pub after_join :
    (W : World) (first later : List Round) (cuts cuts' : List ℕ) → ExplainsFrom W first cuts
    → after_rounds W (first ++ later) (cuts ++ cuts') ≡ after_rounds (after_rounds W first cuts) later cuts'
after_join W [] later cuts cuts' e = rw e refl
after_join W (r ∷ rounds) later cuts cuts' e =
    let more = outcome_more r.outcome W r (length r.requests) cuts cuts' e.0.1 in
    let o = r.outcome in
    ap (λ (place : ℕ). after_rounds (after W (taken_below r place)) (rounds ++ later) (cuts_after o (cuts ++ cuts'))) more.1
    ∙ ap (λ (left : List ℕ). after_rounds (after_round W r cuts) (rounds ++ later) left) more.2
    ∙ after_join (after_round W r cuts) rounds later (cuts_after o cuts) cuts' e.1

pub rounds_join : RoundsJoin
rounds_join W X Y first later cuts cuts' a b =
    record {
      explained = explains_join W first later cuts cuts' a.explained (rw a.reached b.explained);
      reached = after_join W first later cuts cuts' a.explained ∙ ap (λ (V : World). after_rounds V later cuts') a.reached ∙ b.reached;
    }

-- a round's own cuts are the first ones
outcome_part :
    (o : Outcome) (W : World) (r : Round) (size m : ℕ) (cuts : List ℕ) → OutcomeHolds o W r cuts
    → OutcomeHolds o W r (take (cut_count_of o + m) cuts)
    × (place_reached o size (take (cut_count_of o + m) cuts) ≡ place_reached o size cuts)
    × (cuts_after o (take (cut_count_of o + m) cuts) ≡ take m (cuts_after o cuts))
    × (drop (cut_count_of o + m) cuts ≡ drop m (cuts_after o cuts))
outcome_part (Answered replies) W r size m cuts h = let none : 0 + m ≡ m = omega arith in (h, refl, rw none refl, rw none refl)
outcome_part Cut W r size m [] h = absurd h
outcome_part Cut W r size m (c ∷ cuts) h = let one : 1 + m ≡ suc m = omega arith in rw one (h, refl, refl, refl)

pub explains_part :
    (W : World) (first later : List Round) (cuts : List ℕ) → ExplainsFrom W (first ++ later) cuts
    → ExplainsFrom W first (take (cut_count first) cuts)
    × ExplainsFrom (after_rounds W first (take (cut_count first) cuts)) later (drop (cut_count first) cuts)
    × (after_rounds (after_rounds W first (take (cut_count first) cuts)) later (drop (cut_count first) cuts) ≡ after_rounds W (first ++ later) cuts)
explains_part W [] later cuts e = (refl, e, refl)
explains_part W (r ∷ rounds) later cuts e =
    let part = outcome_part r.outcome W r (length r.requests) (cut_count rounds) cuts e.0.1 in
    let rest = explains_part (after_round W r cuts) rounds later (cuts_after r.outcome cuts) e.1 in (
      ((e.0.0, part.0), rw (part.1, part.2) rest.0),
      rw (part.1, part.2, part.3) rest.1,
      rw (part.1, part.2, part.3) rest.2,
    )

pub rounds_part : RoundsPart
rounds_part W Y first later cuts l =
    let part = explains_part W first later cuts l.explained in (
      after_rounds W first (take (cut_count first) cuts),
      record { explained = part.0; reached = refl },
      record { explained = part.1; reached = part.2 ∙ l.reached },
    )

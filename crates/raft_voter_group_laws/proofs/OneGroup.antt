-- One group's part of a transcript: what its callers saw, and its voter.
use Rattle.std.proofs.Common.{◌≡◌, ℕ, ◌+◌, ◌≤◌, ◌==◌, List, [], ◌∷◌, ◌++◌, length, true, false, Bool, Option, None, Some, refl, sym, ap, ◌∙◌, inl, inr, arith}
use Rattle.std.specs.Prelude.{nat_lt, not, ◌&&◌}
use Rattle.std.proofs.lemmas.Bool.{cases_Bool, eqb-true, eq-eqb}
use Rattle.std.proofs.lemmas.Bool.Decides.{nat_tests}
use Rattle.raft_voter_messages.specs.declared.reply.Reply.{Reply}
use Rattle.raft_voter_messages.specs.declared.reply.Reply.TheVariants.{Refused}
use Rattle.raft_voter_messages.specs.declared.request.Request.{Request}
use Rattle.raft_voter_messages.specs.declared.round.Outcome.{Outcome}
use Rattle.raft_voter_messages.specs.declared.round.Outcome.TheVariants.{Answered, Cut}
use Rattle.raft_voter_messages.specs.declared.round.Round.{Round}
use Rattle.raft_voter_outline.specs.State.{State}
use Rattle.raft_voter_outline.specs.Rules.{next, reply}
use Rattle.raft_voter.specs.Rounds.{World, after, after_one, after_round, after_rounds, cuts_after, ExplainsFrom, fresh_world, is_among, OutcomeHolds, place_reached, replies_from, taken_from}
use Rattle.raft_voter_group_laws.specs.Calls.{Call, after_call, after_calls, calls_from, calls_in, calls_of, has_replies, one_voter_shows, replies_seen, seen_in, shown_replies}
use Rattle.raft_voter_group_laws.specs.Laws.{EachGroupHasOneVoter, EachGroupKeepsItsVoter}

-- Lists of calls.

pub one_voter_shows-append :
    (v : State) (xs ys : List Call)
    → one_voter_shows v (xs ++ ys) ≡ one_voter_shows v xs ++ one_voter_shows (after_calls v xs) ys
one_voter_shows-append v [] ys = refl
one_voter_shows-append v (x ∷ xs) ys = rw (one_voter_shows-append (after_call v x) xs ys) refl

after_calls-append :
    (v : State) (xs ys : List Call) → after_calls v (xs ++ ys) ≡ after_calls (after_calls v xs) ys
after_calls-append v [] ys = refl
after_calls-append v (x ∷ xs) ys = after_calls-append (after_call v x) xs ys

-- One request changes its own group's voter alone.

pub moved : (W : World) (q : ℕ × Request) (g : ℕ) → (q.0 == g) ≡ true → after_one W q g ≡ next (W g) q.1
moved W q g same =
    let e : q.0 ≡ g = eqb-true q.0 g same in
    let back : (g == q.0) ≡ true = eq-eqb g q.0 (sym e) in
    rw back (ap (λ (k : ℕ). next (W k) q.1) e)

pub stayed : (W : World) (q : ℕ × Request) (g : ℕ) → (q.0 == g) ≡ false → after_one W q g ≡ W g
stayed W q g apart =
    let back : (g == q.0) ≡ false = grind (arith, nat_tests) in
    rw back refl

-- a round with replies
replied_shows :
    (qs : List (ℕ × Request)) (place cut : ℕ) (refused : List ℕ) (W : World) (g : ℕ) → place + length qs ≤ cut
    → seen_in g qs (replies_from place refused W qs) ≡ one_voter_shows (W g) (calls_from g true refused cut place qs)
replied_shows [] place cut refused W g within = refl
replied_shows (q ∷ qs) place cut refused W g within =
    let below : nat_lt place cut ≡ true = grind (arith, nat_tests) in
    elim (cases_Bool (is_among refused place)) [
      | inl here ↦
          let rest = replied_shows qs (place + 1) cut refused W g (omega (arith, within)) in
          elim (cases_Bool (q.0 == g)) [
            | inl same ↦ rw (here, same, below) (ap (λ (seen : List (Option Reply)). Some Refused ∷ seen) rest)
            | inr apart ↦ rw (here, apart) rest
          ]
      | inr free ↦
          let rest = replied_shows qs (place + 1) cut refused (after_one W q) g (omega (arith, within)) in
          elim (cases_Bool (q.0 == g)) [
            | inl same ↦
                let says : reply (W q.0) q.1 ≡ reply (W g) q.1 = ap (λ (k : ℕ). reply (W k) q.1) (eqb-true q.0 g same) in
                let own = rw (moved W q g same) at rest in
                rw (free, same, below, says) (ap (λ (seen : List (Option Reply)). Some (reply (W g) q.1) ∷ seen) own)
            | inr apart ↦ rw (free, apart) (rw (stayed W q g apart) at rest)
          ]
    ]

-- a round that was cut off shows nothing
cut_shows :
    (qs : List (ℕ × Request)) (place cut : ℕ) (refused : List ℕ) (v : State) (g : ℕ)
    → seen_in g qs [] ≡ one_voter_shows v (calls_from g false refused cut place qs)
cut_shows [] place cut refused v g = refl
cut_shows (q ∷ qs) place cut refused v g = elim (cases_Bool (q.0 == g)) [
  | inl same ↦
      let call : Call = record { request = q.1; taken = nat_lt place cut && not (is_among refused place); replied = false } in
      rw same (ap (λ (seen : List (Option Reply)). None ∷ seen) (cut_shows qs (place + 1) cut refused (after_call v call) g))
  | inr apart ↦ rw apart (cut_shows qs (place + 1) cut refused v g)
]

-- the group's voter takes the group's calls
pub took :
    (qs : List (ℕ × Request)) (replied : Bool) (place cut : ℕ) (refused : List ℕ) (W : World) (g : ℕ)
    → after W (taken_from place cut refused qs) g ≡ after_calls (W g) (calls_from g replied refused cut place qs)
took [] replied place cut refused W g = refl
took (q ∷ qs) replied place cut refused W g =
    elim (cases_Bool (nat_lt place cut && not (is_among refused place))) [
      | inl taken ↦
          let rest = took qs replied (place + 1) cut refused (after_one W q) g in
          elim (cases_Bool (q.0 == g)) [
            | inl same ↦ rw (taken, same) (rw (moved W q g same) at rest)
            | inr apart ↦ rw (taken, apart) (rw (stayed W q g apart) at rest)
          ]
      | inr left ↦
          let rest = took qs replied (place + 1) cut refused W g in
          elim (cases_Bool (q.0 == g)) [
            | inl same ↦ rw (left, same) rest
            | inr apart ↦ rw (left, apart) rest
          ]
    ]

-- one round
round_shows :
    (o : Outcome) (W : World) (r : Round) (cuts : List ℕ) (g : ℕ) → OutcomeHolds o W r cuts
    → seen_in g r.requests (shown_replies o)
    ≡ one_voter_shows (W g) (calls_from g (has_replies o) r.refused (place_reached o (length r.requests) cuts) 0 r.requests)
round_shows (Answered replies) W r cuts g h =
    rw h (replied_shows r.requests 0 (length r.requests) r.refused W g (omega arith))
round_shows Cut W r cuts g h =
    cut_shows r.requests 0 (place_reached Cut (length r.requests) cuts) r.refused (W g) g

-- all rounds
pub rounds_show :
    (rounds : List Round) (W : World) (cuts : List ℕ) (g : ℕ) → ExplainsFrom W rounds cuts
    → replies_seen g rounds ≡ one_voter_shows (W g) (calls_of g rounds cuts)
rounds_show [] W cuts g e = refl
rounds_show (r ∷ rounds) W cuts g e =
    let here = round_shows r.outcome W r cuts g e.0.1 in
    let became = took r.requests (has_replies r.outcome) 0 (place_reached r.outcome (length r.requests) cuts) r.refused W g in
    let rest = rounds_show rounds (after_round W r cuts) (cuts_after r.outcome cuts) g e.1 in
    let others = rw became at rest in
    ap (λ (seen : List (Option Reply)). seen ++ replies_seen g rounds) here
    ∙ ap (λ (seen : List (Option Reply)). one_voter_shows (W g) (calls_in g r cuts) ++ seen) others
    ∙ sym (one_voter_shows-append (W g) (calls_in g r cuts) (calls_of g rounds (cuts_after r.outcome cuts)))

pub rounds_take :
    (rounds : List Round) (W : World) (cuts : List ℕ) (g : ℕ)
    → after_rounds W rounds cuts g ≡ after_calls (W g) (calls_of g rounds cuts)
rounds_take [] W cuts g = refl
rounds_take (r ∷ rounds) W cuts g =
    let became = took r.requests (has_replies r.outcome) 0 (place_reached r.outcome (length r.requests) cuts) r.refused W g in
    let rest = rounds_take rounds (after_round W r cuts) (cuts_after r.outcome cuts) g in
    rest
    ∙ ap (λ (v : State). after_calls v (calls_of g rounds (cuts_after r.outcome cuts))) became
    ∙ sym (after_calls-append (W g) (calls_in g r cuts) (calls_of g rounds (cuts_after r.outcome cuts)))

pub each_group_has_one_voter : EachGroupHasOneVoter
each_group_has_one_voter rounds cuts e g = rounds_show rounds fresh_world cuts g e

pub each_group_keeps_its_voter : EachGroupKeepsItsVoter
each_group_keeps_its_voter W X rounds cuts leads g =
    (rounds_show rounds W cuts g leads.explained, sym (ap (λ (V : World). V g) leads.reached) ∙ rounds_take rounds W cuts g)

-- What all groups saw, one by one, is what the whole transcript shows.
use Rattle.std.proofs.Common.{◌≡◌, ℕ, suc, ◌+◌, ◌≤◌, ◌==◌, List, [], ◌∷◌, ◌++◌, length, drop, true, Bool, Some, refl, ap, ◌∙◌, inl, inr, arith}
use Rattle.std.specs.Prelude.{nat_lt, not, ◌&&◌}
use Rattle.std.proofs.lemmas.Bool.{cases_Bool, eq-eqb}
use Rattle.std.proofs.lemmas.Bool.Decides.{nat_tests}
use Rattle.raft_voter_messages.specs.declared.reply.Reply.{Reply}
use Rattle.raft_voter_messages.specs.declared.reply.Reply.TheVariants.{Refused}
use Rattle.raft_voter_messages.specs.declared.request.Request.{Request}
use Rattle.raft_voter_messages.specs.declared.round.Outcome.{Outcome}
use Rattle.raft_voter_messages.specs.declared.round.Outcome.TheVariants.{Answered, Cut}
use Rattle.raft_voter_messages.specs.declared.round.Round.{Round}
use Rattle.raft_voter_outline.specs.State.{State}
use Rattle.raft_voter_outline.specs.Rules.{next, reply}
use Rattle.raft_voter.specs.Rounds.{World, after_one, after_round, cuts_after, ExplainsFrom, fresh_world, is_among, OutcomeHolds, place_reached, replies_from}
use Rattle.raft_voter_group_laws.specs.Calls.{Call, after_call, after_calls, calls_from, calls_in, calls_of, has_replies, one_voter_shows, replies_seen, seen_in, shown_replies}
use Rattle.raft_voter_group_laws.specs.Laws.{GroupsAloneExplain, OutcomeFits, PlacesFit}
use Rattle.raft_voter_group_laws.proofs.OneGroup.{moved, one_voter_shows-append, rounds_show, stayed, took}

-- equal lists have equal first elements and equal rests
parts_of : {A : Type 0} (x y : A) (xs ys : List A) → (x ∷ xs) ≡ (y ∷ ys) → (x ≡ y) × (xs ≡ ys)
parts_of x y xs ys e = (cc, cc)

of_some : {A : Type 0} (x y : A) → Some x ≡ Some y → x ≡ y
of_some x y e = cc

-- two equal lists, split at the same length
split_alike :
    {A : Type 0} (xs xs' ys ys' : List A) → length xs ≡ length xs' → xs ++ ys ≡ xs' ++ ys' → (xs ≡ xs') × (ys ≡ ys')
split_alike [] [] ys ys' size e = (refl, e)
split_alike [] (x ∷ xs) ys ys' size e = absurd (omega (arith, size))
split_alike (x ∷ xs) [] ys ys' size e = absurd (omega (arith, size))
split_alike (x ∷ xs) (x' ∷ xs') ys ys' size e =
    let here = parts_of x x' (xs ++ ys) (xs' ++ ys') e in
    let rest = split_alike xs xs' ys ys' (omega (arith, size)) here.1 in
    let first = here.0 in
    let others = rest.0 in
    (cc, rest.1)

-- a group has as many replies, seen or not, as calls
same_size :
    (qs : List (ℕ × Request)) (replies : List Reply) (v : State) (g : ℕ) (replied : Bool) (refused : List ℕ)
    (cut place : ℕ)
    → length (seen_in g qs replies) ≡ length (one_voter_shows v (calls_from g replied refused cut place qs))
same_size [] replies v g replied refused cut place = refl
same_size (q ∷ qs) replies v g replied refused cut place = elim (cases_Bool (q.0 == g)) [
  | inl same ↦
      let call : Call = record { request = q.1; taken = nat_lt place cut && not (is_among refused place); replied = replied } in
      rw same (ap (λ (n : ℕ). suc n) (same_size qs (drop 1 replies) (after_call v call) g replied refused cut (place + 1)))
  | inr apart ↦ rw apart (same_size qs (drop 1 replies) v g replied refused cut (place + 1))
]

-- what a round with replies shows to each group makes up all its replies
replies_back :
    (qs : List (ℕ × Request)) (place cut : ℕ) (refused : List ℕ) (W : World) (replies : List Reply)
    → place + length qs ≤ cut → length replies ≡ length qs
    → ((g : ℕ) → seen_in g qs replies ≡ one_voter_shows (W g) (calls_from g true refused cut place qs))
    → replies ≡ replies_from place refused W qs
replies_back [] place cut refused W [] within size each = refl
replies_back [] place cut refused W (a ∷ replies) within size each = absurd (omega (arith, size))
replies_back (q ∷ qs) place cut refused W [] within size each = absurd (omega (arith, size))
replies_back (q ∷ qs) place cut refused W (a ∷ replies) within size each =
    let below : nat_lt place cut ≡ true = grind (arith, nat_tests) in
    let self : (q.0 == q.0) ≡ true = eq-eqb q.0 q.0 refl in
    let of_own = each q.0 in
    let own = rw (self, below) at of_own in
    elim (cases_Bool (is_among refused place)) [
      | inl here ↦
          let both = rw here at own in
          let split = parts_of (Some a) (Some Refused) (seen_in q.0 qs replies)
          (one_voter_shows (W q.0) (calls_from q.0 true refused cut (place + 1) qs)) both in
          let first : a ≡ Refused = of_some a Refused split.0 in
          let rest = replies_back qs (place + 1) cut refused W replies (omega (arith, within)) (omega (arith, size))
          (λ g. elim (cases_Bool (q.0 == g)) [
            | inl same ↦
                let of_group = each g in
                let this = rw (same, below, here) at of_group in
                (parts_of (Some a) (Some Refused) (seen_in g qs replies) (one_voter_shows (W g) (calls_from g true refused cut (place + 1) qs)) this).1
            | inr apart ↦ let of_group = each g in rw apart at of_group
          ]) in
          rw here (ap (λ (x : Reply). x ∷ replies) first ∙ ap (λ (xs : List Reply). Refused ∷ xs) rest)
      | inr free ↦
          let both = rw free at own in
          let split = parts_of (Some a) (Some (reply (W q.0) q.1)) (seen_in q.0 qs replies)
          (one_voter_shows (next (W q.0) q.1) (calls_from q.0 true refused cut (place + 1) qs)) both in
          let first : a ≡ reply (W q.0) q.1 = of_some a (reply (W q.0) q.1) split.0 in
          let rest = replies_back qs (place + 1) cut refused (after_one W q) replies (omega (arith, within)) (omega (arith, size))
          (λ g. elim (cases_Bool (q.0 == g)) [
            | inl same ↦
                let of_group = each g in
                let this = rw (same, below, free) at of_group in
                let tail = (parts_of (Some a) (Some (reply (W g) q.1)) (seen_in g qs replies) (one_voter_shows (next (W g) q.1) (calls_from g true refused cut (place + 1) qs)) this).1 in
                rw (moved W q g same) tail
            | inr apart ↦
                let of_group = each g in
                let this = rw apart at of_group in
                rw (stayed W q g apart) this
          ]) in
          rw free (ap (λ (x : Reply). x ∷ replies) first ∙ ap (λ (xs : List Reply). reply (W q.0) q.1 ∷ xs) rest)
    ]

-- one round
outcome_back :
    (o : Outcome) (W : World) (r : Round) (cuts : List ℕ) → OutcomeFits o (length r.requests) cuts
    → ((g : ℕ) → seen_in g r.requests (shown_replies o)
    ≡ one_voter_shows (W g) (calls_from g (has_replies o) r.refused (place_reached o (length r.requests) cuts) 0 r.requests))
    → OutcomeHolds o W r cuts
outcome_back (Answered replies) W r cuts fits each =
    replies_back r.requests 0 (length r.requests) r.refused W replies (omega arith) fits each
outcome_back Cut W r cuts fits each = fits

-- all rounds
rounds_back :
    (rounds : List Round) (W : World) (cuts : List ℕ) → PlacesFit rounds cuts
    → ((g : ℕ) → replies_seen g rounds ≡ one_voter_shows (W g) (calls_of g rounds cuts)) → ExplainsFrom W rounds cuts
rounds_back [] W cuts fits each = fits
rounds_back (r ∷ rounds) W cuts fits each =
    let place = place_reached r.outcome (length r.requests) cuts in
    let later = cuts_after r.outcome cuts in
    let parted = λ (g : ℕ).
    split_alike (seen_in g r.requests (shown_replies r.outcome)) (one_voter_shows (W g) (calls_in g r cuts)) (replies_seen g rounds)
    (one_voter_shows (after_calls (W g) (calls_in g r cuts)) (calls_of g rounds later))
    (same_size r.requests (shown_replies r.outcome) (W g) g (has_replies r.outcome) r.refused place 0)
    (each g ∙ one_voter_shows-append (W g) (calls_in g r cuts) (calls_of g rounds later)) in
    let here = outcome_back r.outcome W r cuts fits.1 (λ g. (parted g).0) in
    let rest = rounds_back rounds (after_round W r cuts) later fits.2
    (λ g. rw (took r.requests (has_replies r.outcome) 0 place r.refused W g) (parted g).1) in
    ((fits.0, here), rest)

-- the positions of explained rounds fit
length-replies_from :
    (qs : List (ℕ × Request)) (place : ℕ) (refused : List ℕ) (W : World) → length (replies_from place refused W qs) ≡ length qs
length-replies_from [] place refused W = refl
length-replies_from (q ∷ qs) place refused W = elim (cases_Bool (is_among refused place)) [
  | inl here ↦ rw here (ap (λ (n : ℕ). suc n) (length-replies_from qs (place + 1) refused W))
  | inr free ↦ rw free (ap (λ (n : ℕ). suc n) (length-replies_from qs (place + 1) refused (after_one W q)))
]

outcome_fits :
    (o : Outcome) (W : World) (r : Round) (cuts : List ℕ) → OutcomeHolds o W r cuts → OutcomeFits o (length r.requests) cuts
outcome_fits (Answered replies) W r cuts h = rw h (length-replies_from r.requests 0 r.refused W)
outcome_fits Cut W r cuts h = h

pub places_fit : (rounds : List Round) (W : World) (cuts : List ℕ) → ExplainsFrom W rounds cuts → PlacesFit rounds cuts
places_fit [] W cuts e = e
places_fit (r ∷ rounds) W cuts e =
    (e.0.0, outcome_fits r.outcome W r cuts e.0.1, places_fit rounds (after_round W r cuts) (cuts_after r.outcome cuts) e.1)

pub groups_alone_explain : GroupsAloneExplain
groups_alone_explain rounds cuts = (
  λ e. (places_fit rounds fresh_world cuts e, λ g. rounds_show rounds fresh_world cuts g e),
  λ h. rounds_back rounds fresh_world cuts h.0 h.1,
)

-- A group's account is the list of its calls that were taken.
use Rattle.std.proofs.Common.{◌≡◌, ℕ, suc, ◌+◌, ◌≤◌, ◌==◌, List, [], ◌∷◌, ◌++◌, length, drop, true, false, Bool, Option, None, Some, refl, sym, ap, ◌∙◌, inl, inr, arith}
use Rattle.std.specs.Prelude.{nat_lt, not, ◌&&◌}
use Rattle.std.proofs.lemmas.Bool.{cases_Bool}
use Rattle.std.proofs.lemmas.Bool.Decides.{nat_tests}
use Rattle.raft_voter_messages.specs.declared.reply.Reply.{Reply}
use Rattle.raft_voter_messages.specs.declared.request.Request.{Request}
use Rattle.raft_voter_messages.specs.declared.round.Outcome.{Outcome}
use Rattle.raft_voter_messages.specs.declared.round.Outcome.TheVariants.{Answered, Cut}
use Rattle.raft_voter_messages.specs.declared.round.Round.{Round}
use Rattle.raft_voter.specs.Accounts.{account, account_of_round, own, Taken, told_from, untold}
use Rattle.raft_voter.specs.Rounds.{cuts_after, fresh_world, is_among, place_reached, taken_from}
use Rattle.raft_voter_group_laws.specs.Calls.{Call, calls_from, calls_in, calls_of, has_replies, replies_seen, seen_in, shown_replies, taken_of}
use Rattle.raft_voter_group_laws.specs.Laws.{AccountListsTakenCalls, OutcomeFits, PlacesFit}
use Rattle.raft_voter_group_laws.proofs.FromGroups.{places_fit}

own-append : (g : ℕ) (xs ys : List Taken) → own g (xs ++ ys) ≡ own g xs ++ own g ys
own-append g [] ys = refl
own-append g (x ∷ xs) ys = elim (cases_Bool (x.group == g)) [
  | inl same ↦ rw same (ap (λ (ts : List (Request × Option Reply)). (x.request, x.told) ∷ ts) (own-append g xs ys))
  | inr apart ↦ rw apart (own-append g xs ys)
]

taken_of-append :
    (cs cs' : List Call) (seen seen' : List (Option Reply)) → length cs ≡ length seen
    → taken_of (cs ++ cs') (seen ++ seen') ≡ taken_of cs seen ++ taken_of cs' seen'
taken_of-append [] cs' [] seen' size = refl
taken_of-append [] cs' (s ∷ seen) seen' size = absurd (omega (arith, size))
taken_of-append (c ∷ cs) cs' [] seen' size = absurd (omega (arith, size))
taken_of-append (c ∷ cs) cs' (s ∷ seen) seen' size =
    let rest = taken_of-append cs cs' seen seen' (omega (arith, size)) in
    elim (cases_Bool c.taken) [
      | inl taken ↦ rw taken (ap (λ (ts : List (Request × Option Reply)). (c.request, s) ∷ ts) rest)
      | inr left ↦ rw left rest
    ]

-- a group has as many calls as replies, seen or not
length-calls_from :
    (qs : List (ℕ × Request)) (replies : List Reply) (g : ℕ) (replied : Bool) (refused : List ℕ) (cut place : ℕ)
    → length (calls_from g replied refused cut place qs) ≡ length (seen_in g qs replies)
length-calls_from [] replies g replied refused cut place = refl
length-calls_from (q ∷ qs) replies g replied refused cut place =
    let rest = length-calls_from qs (drop 1 replies) g replied refused cut (place + 1) in
    elim (cases_Bool (q.0 == g)) [
      | inl same ↦ rw same (ap (λ (n : ℕ). suc n) rest)
      | inr apart ↦ rw apart rest
    ]

-- a round with replies
replied_lists :
    (qs : List (ℕ × Request)) (replies : List Reply) (place cut : ℕ) (refused : List ℕ) (g : ℕ)
    → place + length qs ≤ cut → length replies ≡ length qs
    → own g (told_from place refused qs replies) ≡ taken_of (calls_from g true refused cut place qs) (seen_in g qs replies)
replied_lists [] replies place cut refused g within size = refl
replied_lists (q ∷ qs) [] place cut refused g within size = absurd (omega (arith, size))
replied_lists (q ∷ qs) (a ∷ replies) place cut refused g within size =
    let below : nat_lt place cut ≡ true = grind (arith, nat_tests) in
    let rest = replied_lists qs replies (place + 1) cut refused g (omega (arith, within)) (omega (arith, size)) in
    elim (cases_Bool (is_among refused place)) [
      | inl here ↦ elim (cases_Bool (q.0 == g)) [
        | inl same ↦ rw (here, same, below) rest
        | inr apart ↦ rw (here, apart) rest
      ]
      | inr free ↦ elim (cases_Bool (q.0 == g)) [
        | inl same ↦ rw (free, same, below) (ap (λ (ts : List (Request × Option Reply)). (q.1, Some a) ∷ ts) rest)
        | inr apart ↦ rw (free, apart) rest
      ]
    ]

-- a round that was cut off
cut_lists :
    (qs : List (ℕ × Request)) (place cut : ℕ) (refused : List ℕ) (g : ℕ)
    → own g (untold (taken_from place cut refused qs)) ≡ taken_of (calls_from g false refused cut place qs) (seen_in g qs [])
cut_lists [] place cut refused g = refl
cut_lists (q ∷ qs) place cut refused g =
    let rest = cut_lists qs (place + 1) cut refused g in
    elim (cases_Bool (nat_lt place cut && not (is_among refused place))) [
      | inl taken ↦ elim (cases_Bool (q.0 == g)) [
        | inl same ↦ rw (taken, same) (ap (λ (ts : List (Request × Option Reply)). (q.1, None) ∷ ts) rest)
        | inr apart ↦ rw (taken, apart) rest
      ]
      | inr left ↦ elim (cases_Bool (q.0 == g)) [
        | inl same ↦ rw (left, same) rest
        | inr apart ↦ rw (left, apart) rest
      ]
    ]

round_lists :
    (o : Outcome) (r : Round) (cuts : List ℕ) (g : ℕ) → OutcomeFits o (length r.requests) cuts
    → own g (account_of_round o r cuts)
    ≡ taken_of (calls_from g (has_replies o) r.refused (place_reached o (length r.requests) cuts) 0 r.requests)
    (seen_in g r.requests (shown_replies o))
round_lists (Answered replies) r cuts g fits =
    replied_lists r.requests replies 0 (length r.requests) r.refused g (omega arith) fits
round_lists Cut r cuts g fits = cut_lists r.requests 0 (place_reached Cut (length r.requests) cuts) r.refused g

rounds_list :
    (rounds : List Round) (cuts : List ℕ) (g : ℕ) → PlacesFit rounds cuts
    → own g (account rounds cuts) ≡ taken_of (calls_of g rounds cuts) (replies_seen g rounds)
rounds_list [] cuts g fits = refl
rounds_list (r ∷ rounds) cuts g fits =
    let place = place_reached r.outcome (length r.requests) cuts in
    let later = cuts_after r.outcome cuts in
    let here = round_lists r.outcome r cuts g fits.1 in
    let rest = rounds_list rounds later g fits.2 in
    let size = length-calls_from r.requests (shown_replies r.outcome) g (has_replies r.outcome) r.refused place 0 in
    own-append g (account_of_round r.outcome r cuts) (account rounds later)
    ∙ ap (λ (ts : List (Request × Option Reply)). ts ++ own g (account rounds later)) here
    ∙ ap (λ (ts : List (Request × Option Reply)). taken_of (calls_in g r cuts) (seen_in g r.requests (shown_replies r.outcome)) ++ ts) rest
    ∙ sym (taken_of-append (calls_in g r cuts) (calls_of g rounds later) (seen_in g r.requests (shown_replies r.outcome)) (replies_seen g rounds) size)

pub account_lists_taken_calls : AccountListsTakenCalls
account_lists_taken_calls rounds cuts e g = rounds_list rounds cuts g (places_fit rounds fresh_world cuts e)

use Rattle.std.proofs.Common.{◌≡◌, ℕ, ◌+◌, ◌≤◌, ◌==◌, List, [], ◌∷◌, ◌++◌, length, true, false, Option, refl, sym, ap, ◌∙◌, inl, inr, arith}
use Rattle.std.specs.Prelude.{IfSome, nat_lt}
use Rattle.std.proofs.lemmas.Bool.{cases_Bool, eqb-true, eq-eqb}
use Rattle.std.proofs.lemmas.Bool.Decides.{nat_tests}
use Rattle.raft_voter_messages.specs.declared.reply.Reply.{Reply}
use Rattle.raft_voter_messages.specs.declared.request.Request.{Request}
use Rattle.raft_voter_messages.specs.declared.round.Outcome.{Outcome}
use Rattle.raft_voter_messages.specs.declared.round.Outcome.TheVariants.{Answered, Cut}
use Rattle.raft_voter_messages.specs.declared.round.Round.{Round}
use Rattle.raft_voter_outline.specs.State.{State, fresh}
use Rattle.raft_voter_outline.specs.Rules.{next, reply}
use Rattle.raft_voter.specs.Rounds.{World, after, after_one, after_round, after_rounds, cuts_after, Explains, ExplainsFrom, fresh_world, is_among, OutcomeHolds, place_reached, replies_from, taken_below, taken_from}
use Rattle.raft_voter.specs.Accounts.{account, account_of_round, group_account, own, requests_of, Taken, told_from, untold, voter_from}

-- each reply that was told is the group's voter's, after everything before
abbrev pub Follows : World → List Taken → Type 0
Follows W [] = Unit {0}
Follows W (t ∷ ts) = IfSome t.told (λ a. a ≡ reply (W t.group) t.request) × Follows (after_one W (t.group, t.request)) ts

-- the world after what was taken
abbrev pub after_taken : World → List Taken → World
after_taken W [] = W
after_taken W (t ∷ ts) = after_taken (after_one W (t.group, t.request)) ts

follows_append :
    (W : World) (xs ys : List Taken) → Follows W xs → Follows (after_taken W xs) ys → Follows W (xs ++ ys)
follows_append W [] ys fx fy = fy
follows_append W (x ∷ xs) ys fx fy = (fx.0, follows_append (after_one W (x.group, x.request)) xs ys fx.1 fy)

after_taken-append : (W : World) (xs ys : List Taken) → after_taken W (xs ++ ys) ≡ after_taken (after_taken W xs) ys
after_taken-append W [] ys = refl
after_taken-append W (x ∷ xs) ys = after_taken-append (after_one W (x.group, x.request)) xs ys

-- an answered round
told_follows :
    (qs : List (ℕ × Request)) (place : ℕ) (refused : List ℕ) (W : World)
    → Follows W (told_from place refused qs (replies_from place refused W qs))
told_follows [] place refused W = tt
told_follows (q ∷ qs) place refused W = elim (cases_Bool (is_among refused place)) [
  | inl here ↦ rw (here, here) (told_follows qs (place + 1) refused W)
  | inr apart ↦ rw (apart, apart) (refl, told_follows qs (place + 1) refused (after_one W q))
]

told_after :
    (qs : List (ℕ × Request)) (place cut : ℕ) (refused : List ℕ) (W : World) → place + length qs ≤ cut
    → after_taken W (told_from place refused qs (replies_from place refused W qs)) ≡ after W (taken_from place cut refused qs)
told_after [] place cut refused W within = refl
told_after (q ∷ qs) place cut refused W within =
    let below : nat_lt place cut ≡ true = grind (arith, nat_tests) in
    elim (cases_Bool (is_among refused place)) [
      | inl here ↦ rw (below, here, here) (told_after qs (place + 1) cut refused W (omega arith))
      | inr apart ↦ rw (below, apart, apart) (told_after qs (place + 1) cut refused (after_one W q) (omega arith))
    ]

-- a round that was cut off
untold_follows : (qs : List (ℕ × Request)) (W : World) → Follows W (untold qs)
untold_follows [] W = tt
untold_follows (q ∷ qs) W = (tt, untold_follows qs (after_one W q))

untold_after : (qs : List (ℕ × Request)) (W : World) → after_taken W (untold qs) ≡ after W qs
untold_after [] W = refl
untold_after (q ∷ qs) W = untold_after qs (after_one W q)

round_follows :
    (o : Outcome) (W : World) (r : Round) (cuts : List ℕ) → OutcomeHolds o W r cuts
    → Follows W (account_of_round o r cuts)
    × (after_taken W (account_of_round o r cuts) ≡ after W (taken_below r (place_reached o (length r.requests) cuts)))
round_follows (Answered replies) W r cuts h =
    rw h (told_follows r.requests 0 r.refused W, told_after r.requests 0 (length r.requests) r.refused W (omega arith))
round_follows Cut W r cuts h =
    let qs = taken_below r (place_reached Cut (length r.requests) cuts) in
    (untold_follows qs W, untold_after qs W)

-- what an explained transcript says follows
pub account_follows :
    (rounds : List Round) (W : World) (cuts : List ℕ) → ExplainsFrom W rounds cuts
    → Follows W (account rounds cuts) × (after_taken W (account rounds cuts) ≡ after_rounds W rounds cuts)
account_follows [] W cuts e = (tt, refl)
account_follows (r ∷ rounds) W cuts e =
    let here = round_follows r.outcome W r cuts e.0.1 in
    let rest = account_follows rounds (after_round W r cuts) (cuts_after r.outcome cuts) e.1 in
    let first = account_of_round r.outcome r cuts in
    let others = account rounds (cuts_after r.outcome cuts) in (
      follows_append W first others here.0 (rw here.1 rest.0),
      after_taken-append W first others ∙ ap (λ (V : World). after_taken V others) here.1 ∙ rest.1,
    )

-- One group's voter.

-- each reply that was told is the voter's, after everything before
abbrev pub Runs : State → List (Request × Option Reply) → Type 0
Runs v [] = Unit {0}
Runs v (t ∷ ts) = IfSome t.1 (λ a. a ≡ reply v t.0) × Runs (next v t.0) ts

pub own_runs :
    (ts : List Taken) (W : World) (g : ℕ) → Follows W ts
    → Runs (W g) (own g ts) × (after_taken W ts g ≡ voter_from (W g) (own g ts))
own_runs [] W g f = (tt, refl)
own_runs (t ∷ ts) W g f =
    let rest = own_runs ts (after_one W (t.group, t.request)) g f.1 in
    elim (cases_Bool (t.group == g)) [
      | inl same ↦
          let e : t.group ≡ g = eqb-true t.group g same in
          let back : (g == t.group) ≡ true = eq-eqb g t.group (sym e) in
          let moved : after_one W (t.group, t.request) g ≡ next (W g) t.request =
          rw back (ap (λ (k : ℕ). next (W k) t.request) e) in
          rw same ((rw e at f.0, rw moved at rest.0), rw moved at rest.1)
      | inr apart ↦
          let back : (g == t.group) ≡ false = grind (arith, nat_tests) in
          let stayed : after_one W (t.group, t.request) g ≡ W g = rw back refl in
          rw apart (rw stayed at rest.0, rw stayed at rest.1)
    ]

-- what a transcript says of one group is a run of a voter
pub group_runs :
    (rounds : List Round) (cuts : List ℕ) (g : ℕ) → Explains rounds cuts → Runs fresh (group_account g rounds cuts)
group_runs rounds cuts g e =
    (own_runs (account rounds cuts) fresh_world g (account_follows rounds fresh_world cuts e).0).0

pub runs_append :
    (xs ys : List (Request × Option Reply)) (v : State) → Runs v (xs ++ ys) → Runs v xs × Runs (voter_from v xs) ys
runs_append [] ys v r = (tt, r)
runs_append (x ∷ xs) ys v r = let rest = runs_append xs ys (next v x.0) r.1 in ((r.0, rest.0), rest.1)

pub voter_from-append :
    (xs ys : List (Request × Option Reply)) (v : State) → voter_from v (xs ++ ys) ≡ voter_from (voter_from v xs) ys
voter_from-append [] ys v = refl
voter_from-append (x ∷ xs) ys v = voter_from-append xs ys (next v x.0)

-- the voter depends on the requests alone
pub voter_from-requests :
    (xs ys : List (Request × Option Reply)) (v : State) → requests_of xs ≡ requests_of ys → voter_from v xs ≡ voter_from v ys
voter_from-requests [] [] v same = refl
voter_from-requests [] (y ∷ ys) v same = absurd (cc)
voter_from-requests (x ∷ xs) [] v same = absurd (cc)
voter_from-requests (x ∷ xs) (y ∷ ys) v same =
    let first : x.0 ≡ y.0 = cc in
    let others : requests_of xs ≡ requests_of ys = cc in
    ap (λ q. voter_from (next v q) xs) first ∙ voter_from-requests xs ys (next v y.0) others

-- Each group's voter goes its own way.
use Rattle.std.proofs.Common.{◌≡◌, ℕ, ◌==◌, true, false, List, [], ◌∷◌, ◌++◌, refl, sym, ap, inl, inr, arith}
use Rattle.std.proofs.lemmas.Bool.{cases_Bool, eqb-true, eq-eqb}
use Rattle.std.proofs.lemmas.Bool.Decides.{nat_tests}
use Rattle.raft_voter_messages.specs.declared.reply.Reply.{Reply}
use Rattle.raft_voter_messages.specs.declared.request.Request.{Request}
use Rattle.raft_voter_outline.specs.Rules.{next, reply}
use Rattle.raft_voter_outline.specs.State.{State}
use Rattle.raft_voter.specs.Rounds.{World, after, after_one}
use Rattle.raft_voter_world.specs.Independent.{asked_of, replies_alone, told_to, voter_alone}
use Rattle.raft_voter_world.proofs.InTurn.{in_turn}

-- of requests that are taken in turn a group is told what its own voter says, which takes the group's alone
pub goes_alone : (W : World) (qs : List (ℕ × Request)) (g : ℕ)
    → (told_to g qs (in_turn W qs) ≡ replies_alone (W g) (asked_of g qs)) × (after W qs g ≡ voter_alone (W g) (asked_of g qs))
goes_alone W [] g = (refl, refl)
goes_alone W (q ∷ qs) g =
    let rest = goes_alone (after_one W q) qs g in
    elim (cases_Bool (q.0 == g)) [
      | inl same ↦
          let e : q.0 ≡ g = eqb-true q.0 g same in
          let back : (g == q.0) ≡ true = eq-eqb g q.0 (sym e) in
          let moved : after_one W q g ≡ next (W g) q.1 = rw back (ap (λ (k : ℕ). next (W k) q.1) e) in
          let says : reply (W q.0) q.1 ≡ reply (W g) q.1 = ap (λ (k : ℕ). reply (W k) q.1) e in
          let told = rw moved at rest.0 in
          (rw same (rw says (ap (λ (rs : List Reply). reply (W g) q.1 ∷ rs) told)), rw same (rw moved at rest.1))
      | inr apart ↦
          let back : (g == q.0) ≡ false = grind (arith, nat_tests) in
          let stayed : after_one W q g ≡ W g = rw back refl in
          (rw apart (rw stayed at rest.0), rw apart (rw stayed at rest.1))
    ]

pub replies_alone-append : (v : State) (xs ys : List Request) → replies_alone v (xs ++ ys) ≡ replies_alone v xs ++ replies_alone (voter_alone v xs) ys
replies_alone-append v [] ys = refl
replies_alone-append v (x ∷ xs) ys = ap (λ (rs : List Reply). reply v x ∷ rs) (replies_alone-append (next v x) xs ys)

pub voter_alone-append : (v : State) (xs ys : List Request) → voter_alone v (xs ++ ys) ≡ voter_alone (voter_alone v xs) ys
voter_alone-append v [] ys = refl
voter_alone-append v (x ∷ xs) ys = voter_alone-append (next v x) xs ys

-- A round of which just the requests out of range were refused is taken request by request.
use Rattle.std.proofs.Common.{◌≡◌, ◌∙◌, ℕ, ◌+◌, ◌<◌, ◌≤◌, ◌==◌, nat_lt, true, false, List, [], ◌∷◌, length, refl, sym, ap, inl, inr, arith}
use Rattle.std.proofs.Math.Path.{fun_ext}
use Rattle.std.proofs.lemmas.Bool.{cases_Bool, eqb-true}
use Rattle.std.proofs.lemmas.Bool.Decides.{nat_tests}
use Rattle.raft_voter_messages.specs.declared.reply.Reply.{Reply}
use Rattle.raft_voter_messages.specs.declared.reply.Reply.TheVariants.{Refused}
use Rattle.raft_voter_messages.specs.declared.request.Request.{Request}
use Rattle.raft_voter_messages.specs.Ranges.{in_range}
use Rattle.raft_voter_outline.specs.Rules.{reply}
use Rattle.raft_voter.specs.Rounds.{World, after, after_one, is_among, replies_from, taken_from}
use Rattle.raft_voter.specs.Service.{out_of_range}

-- the replies to requests that are taken one after another
abbrev pub in_turn : World → List (ℕ × Request) → List Reply
in_turn W [] = []
in_turn W (q ∷ qs) = reply (W q.0) q.1 ∷ in_turn (after_one W q) qs

-- a request out of range changes no voter
out_stays : (W : World) (q : ℕ × Request) → in_range q.1 ≡ false → after_one W q ≡ W
out_stays W q out = fun_ext at
  where
    at : (g : ℕ) → after_one W q g ≡ W g
    at g = elim (cases_Bool (g == q.0)) [
      | inl same ↦ rw (same, out) (ap W (sym (eqb-true g q.0 same)))
      | inr other ↦ rw other refl
    ]

-- places below one are none of those out of range from it on
above : (low j : ℕ) (qs : List (ℕ × Request)) → j < low → is_among (out_of_range low qs) j ≡ false
above low j [] h = refl
above low j (q ∷ qs) h =
    let apart : (low == j) ≡ false = grind (arith, nat_tests) in
    elim (cases_Bool (in_range q.1)) [
      | inl fits ↦ rw fits (above (low + 1) j qs (omega arith))
      | inr out ↦ rw (out, apart) (above (low + 1) j qs (omega arith))
    ]

-- from a place on, these are the places out of range
abbrev Agree : ℕ → List ℕ → List (ℕ × Request) → Type 0
Agree place ps qs = (j : ℕ) → place ≤ j → is_among ps j ≡ is_among (out_of_range place qs) j

agree_on : (place : ℕ) (ps : List ℕ) (q : ℕ × Request) (qs : List (ℕ × Request)) → Agree place ps (q ∷ qs) → Agree (place + 1) ps qs
agree_on place ps q qs a j h =
    let apart : (place == j) ≡ false = grind (arith, nat_tests) in
    elim (cases_Bool (in_range q.1)) [
      | inl fits ↦ rw fits at (a j (omega arith))
      | inr out ↦ rw (out, apart) at (a j (omega arith))
    ]

here_fits : (place : ℕ) (ps : List ℕ) (q : ℕ × Request) (qs : List (ℕ × Request)) → Agree place ps (q ∷ qs) → in_range q.1 ≡ true → is_among ps place ≡ false
here_fits place ps q qs a fits =
    let e = a place (omega arith) in
    rw fits at e ∙ above (place + 1) place qs (omega arith)

here_out : (place : ℕ) (ps : List ℕ) (q : ℕ × Request) (qs : List (ℕ × Request)) → Agree place ps (q ∷ qs) → in_range q.1 ≡ false → is_among ps place ≡ true
here_out place ps q qs a out =
    let own : (place == place) ≡ true = grind (arith, nat_tests) in
    let e = a place (omega arith) in
    rw (out, own) at e

-- so all are taken in turn
abbrev Turns : ℕ → ℕ → List ℕ → World → List (ℕ × Request) → Type 0
Turns place n ps W qs = (replies_from place ps W qs ≡ in_turn W qs) × (after W (taken_from place n ps qs) ≡ after W qs)

pub turns : (place n : ℕ) (ps : List ℕ) (W : World) (qs : List (ℕ × Request)) → Agree place ps qs → place + length qs ≤ n → Turns place n ps W qs
turns place n ps W [] a h = (refl, refl)
turns place n ps W (q ∷ qs) a h =
    let inside : nat_lt place n ≡ true = grind (arith, nat_tests) in
    let rest = turns (place + 1) n ps (after_one W q) qs (agree_on place ps q qs a) (omega arith) in
    elim (cases_Bool (in_range q.1)) [
      | inl fits ↦
          let out = here_fits place ps q qs a fits in
          (rw out (ap (λ (rs : List Reply). reply (W q.0) q.1 ∷ rs) rest.0), rw (out, inside) rest.1)
      | inr far ↦
          let out = here_out place ps q qs a far in
          let same = out_stays W q far in
          let others = turns (place + 1) n ps W qs (agree_on place ps q qs a) (omega arith) in
          let said : reply (W q.0) q.1 ≡ Refused = rw far refl in (
            rw out (
                ap (λ (rs : List Reply). Refused ∷ rs) (others.0 ∙ ap (λ (X : World). in_turn X qs) (sym same))
                ∙ ap (λ (r : Reply). r ∷ in_turn (after_one W q) qs) (sym said)
                ),
            rw (out, inside) (others.1 ∙ ap (λ (X : World). after X qs) (sym same)),
          )
    ]

-- A log of which nothing was found has no group with a hole.
use Rattle.std.proofs.Common.{◌≡◌, ℕ, suc, ◌==◌, true, List, [], ◌∷◌, length, Option, None, Some, refl, arith}
use Rattle.std.specs.Prelude.{IsTrue, ◌↔◌, Contains}
use Rattle.raft_log_offline.specs.Findings.{Lists}

in_none : {X : Type 0} (y : X) → Contains [] y → ⊥
in_none y (k, lt, is) = omega (arith, lt)

none_if : (o : Option ℕ) → ((end : ℕ) → o ≡ Some end → ⊥) → o ≡ None
none_if None other = refl
none_if (Some end) other = absurd (other end refl)

none_some : (o : Option ℕ) (end : ℕ) → o ≡ None → o ≡ Some end → ⊥
none_some None end none some = absurd cc
none_some (Some n) end none some = absurd cc

some_left : (n : ℕ) → (suc n == 0 ≡ true) → ⊥
some_left n is = grind (arith, is)

-- where the list is empty nothing was found; else its first member was
pub empty_tells : (found : ℕ → Option ℕ) (findings : List (ℕ × ℕ)) → Lists found findings → IsTrue (length findings == 0) ↔ ((group : ℕ) → found group ≡ None)
empty_tells found [] lists =
    ((λ h group. none_if (found group) (λ end at. in_none (group, end) ((lists.exact group end).1 at))), λ h. refl)
empty_tells found (x ∷ xs) lists =
    let first : found x.0 ≡ Some x.1 = (lists.exact x.0 x.1).0 (0, omega arith, refl) in
    (λ h. absurd (some_left (length xs) h), λ h. absurd (none_some (found x.0) x.1 (h x.0) first))

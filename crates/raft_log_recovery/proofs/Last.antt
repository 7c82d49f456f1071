-- The last of a list.
use Rattle.std.specs.Prelude.{Option, Some, slice_get}
use Rattle.std.specs.List.{last_or}
use Rattle.std.proofs.Common.{◌≡◌, ℕ, ◌-◌, suc, List, [], ◌∷◌, length, subst, arith}

pub last_is : {X : Type 0} (o : Option X) (xs : List X) (x : X) → slice_get xs (length xs - 1) ≡ Some x → last_or o xs ≡ Some x
last_is o [] x is = absurd (cc)
last_is o (y ∷ []) x is = is
last_is o (y ∷ z ∷ xs) x is =
    let place : length (y ∷ z ∷ xs) - 1 ≡ suc (length (z ∷ xs) - 1) = omega arith in
    last_is (Some y) (z ∷ xs) x (subst (λ (k : ℕ). slice_get (y ∷ z ∷ xs) k ≡ Some x) place is)

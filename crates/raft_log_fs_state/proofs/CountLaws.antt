-- How many elements pass a test that the first ones pass and the others don't.
use Rattle.std.specs.Prelude.{◌≡◌, ℕ, ◌≤◌, Bool, true, false, cond, zero, suc, List, [], ◌∷◌, length}
use Rattle.std.specs.List.{filter}
use Rattle.std.specs.List.Sorted.{IsPartitionPoint}
use Rattle.std.proofs.Common.{refl, ◌∙◌, ap, arith}

pub count_first : (p : ℕ → Bool) (xs : List ℕ) (i : ℕ) → i ≤ length xs → IsPartitionPoint (λ y. p y ≡ true) (λ y. p y ≡ false) xs i → length (filter p xs) ≡ i
count_first p [] zero fits point = refl
count_first p [] (suc i) fits point = absurd (omega (arith, fits))
count_first p (x ∷ xs) zero fits point =
    ap (λ (b : Bool). length (cond b (x ∷ filter p xs) (filter p xs))) (point.1 0 0 (omega arith) (omega arith))
    ∙ count_first p xs zero (omega arith) ((λ k d low high. absurd (omega (arith, high))), (λ k d low high. point.1 (suc k) d (omega arith) (omega (arith, high))))
count_first p (x ∷ xs) (suc i) fits point =
    ap (λ (b : Bool). length (cond b (x ∷ filter p xs) (filter p xs))) (point.0 0 0 (omega arith) (omega arith))
    ∙ ap suc (count_first p xs i (omega (arith, fits))
    ((λ k d low high. point.0 (suc k) d (omega arith) (omega (arith, high))), (λ k d low high. point.1 (suc k) d (omega (arith, low)) (omega (arith, high)))))

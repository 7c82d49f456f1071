-- Places that take the place of others, one after another.
use Rattle.std.proofs.Common.{◌≡◌, ℕ, zero, suc, ◌+◌, ◌<◌, List, [], ◌∷◌, ◌++◌, length, take, drop, slice_index_or, refl, ap, ◌∙◌, arith}

-- one element more from the front
pub take_next : {A : Type 0} (n : ℕ) (xs : List A) (d : A) → n < length xs → take (n + 1) xs ≡ take n xs ++ (slice_index_or xs n d ∷ [])
take_next zero [] d h = absurd (omega arith)
take_next (suc n) [] d h = absurd (omega arith)
take_next zero (x ∷ xs) d h = refl
take_next (suc n) (x ∷ xs) d h =
    ap (λ k. take k (x ∷ xs)) (let same : suc n + 1 ≡ suc (n + 1) = omega arith in same) ∙ ap (λ l. x ∷ l) (take_next n xs d (omega arith))

-- a list from a place on, by what stands there
pub drop_at : {A : Type 0} (n : ℕ) (xs : List A) (d : A) → n < length xs → drop n xs ≡ slice_index_or xs n d ∷ drop (n + 1) xs
drop_at zero [] d h = absurd (omega arith)
drop_at (suc n) [] d h = absurd (omega arith)
drop_at zero (x ∷ xs) d h = refl
drop_at (suc n) (x ∷ xs) d h =
    drop_at n xs d (omega arith) ∙ ap (λ k. slice_index_or xs n d ∷ drop k (x ∷ xs)) (let same : suc (n + 1) ≡ suc n + 1 = omega arith in same)

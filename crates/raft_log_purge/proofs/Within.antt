-- Different elements, each of them among others, sum to no more than those.
use Rattle.std.proofs.Common.{◌≡◌, ◌⊎◌, ◌≤◌, ◌+◌, ◌∙◌, ℕ, zero, suc, List, [], ◌∷◌, map, inl, inr, refl, sym, ap, subst, arith}
use Rattle.std.specs.List.{Contains, sum_by}
use Rattle.std.proofs.lemmas.List.Sums.{sum_by-cons}

-- it is one of these
abbrev pub Among : {X : Type 0} → X → List X → Type 0
Among x [] = ⊥
Among x (y ∷ ys) = (y ≡ x) ⊎ Among x ys

-- none of them is there twice
abbrev pub AreApart : {X : Type 0} → List X → Type 0
AreApart [] = Unit {0}
AreApart (x ∷ xs) = (Among x xs → ⊥) × AreApart xs

pub among : {X : Type 0} (xs : List X) (x : X) → Contains xs x → Among x xs
among [] x (k, less, is) = absurd (omega (arith, less))
among (y ∷ ys) x (zero, less, is) = inl is
among (y ∷ ys) x (suc k, less, is) = inr (among ys x (k, omega (arith, less), is))

pub contained : {X : Type 0} (xs : List X) (x : X) → Among x xs → Contains xs x
contained [] x never = absurd never
contained (y ∷ ys) x (inl same) = (0, omega arith, same)
contained (y ∷ ys) x (inr later) = (let there = contained ys x later in let less = there.1 in (suc there.0, omega (arith, less), there.2))

pub among_map : {X Y : Type 0} (f : X → Y) (x : X) (xs : List X) → Among x xs → Among (f x) (map f xs)
among_map f x [] never = absurd never
among_map f x (y ∷ ys) (inl same) = inl (ap f same)
among_map f x (y ∷ ys) (inr later) = inr (among_map f x ys later)

module _ {X : Type 0} (f : X → ℕ) where
  -- without that one
  abbrev rest : (x : X) (ys : List X) → Among x ys → List X
  rest x [] never = absurd never
  rest x (y ∷ ys) (inl same) = ys
  rest x (y ∷ ys) (inr later) = y ∷ rest x ys later

  rest_sum : (x : X) (ys : List X) (a : Among x ys) → sum_by f ys ≡ f x + sum_by f (rest x ys a)
  rest_sum x [] never = absurd never
  rest_sum x (y ∷ ys) (inl same) = sum_by-cons f y ys ∙ ap (λ (z : X). f z + sum_by f ys) same
  rest_sum x (y ∷ ys) (inr later) = omega (arith, sum_by-cons f y ys, sum_by-cons f y (rest x ys later), rest_sum x ys later)

  rest_among : (x z : X) (ys : List X) (a : Among x ys) → (z ≡ x → ⊥) → Among z ys → Among z (rest x ys a)
  rest_among x z [] never other h = absurd never
  rest_among x z (y ∷ ys) (inl same) other (inl here) = absurd (other (sym here ∙ same))
  rest_among x z (y ∷ ys) (inl same) other (inr there) = there
  rest_among x z (y ∷ ys) (inr later) other (inl here) = inl here
  rest_among x z (y ∷ ys) (inr later) other (inr there) = inr (rest_among x z ys later other there)

  pub sum_within : (xs ys : List X) → AreApart xs → ((x : X) → Among x xs → Among x ys) → sum_by f xs ≤ sum_by f ys
  sum_within [] ys apart known = omega arith
  sum_within (x ∷ xs) ys (fresh, apart) known =
      let a : Among x ys = known x (inl refl) in
      let few = sum_within xs (rest x ys a) apart (λ z there. rest_among x z ys a (λ same. fresh (subst (λ (w : X). Among w xs) same there)) (known z (inr there))) in
      omega (arith, few, sum_by-cons f x xs, rest_sum x ys a)

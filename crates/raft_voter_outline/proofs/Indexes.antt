use Rattle.std.proofs.Common.{◌≡◌, ◌≢◌, ℕ, zero, suc, ◌+◌, ◌-◌, ◌≤◌, ◌<◌, ◌==◌, List, [], ◌∷◌, ◌++◌, length, take, drop, false, Option, Some, refl, sym, ap, ◌∙◌, inl, inr, arith}
use Rattle.std.specs.Prelude.{slice_get}
use Rattle.std.specs.Option.{option_map}
use Rattle.std.proofs.lemmas.Bool.{cases_Bool, eqb-true, eq-eqb, false≢true}
use Rattle.std.proofs.lemmas.Bool.Decides.{nat_tests}
use Rattle.std.proofs.lemmas.List.Sums.{common_prefix_len-le}
use Rattle.raft_voter_outline.specs.Rules.{matching, merged}

abbrev pub Pair : Type 0
Pair = ℕ × List ℕ

-- Elements of parts of a list.

pub get_front :
    (k : ℕ) (xs ys : List Pair) (n : ℕ) → n < k → k ≤ length xs → slice_get (take k xs ++ ys) n ≡ slice_get xs n
get_front zero xs ys n below within = absurd (omega arith)
get_front (suc k) [] ys n below within = absurd (omega arith)
get_front (suc k) (x ∷ xs) ys zero below within = refl
get_front (suc k) (x ∷ xs) ys (suc n) below within = get_front k xs ys n (omega arith) (omega arith)

pub get_back :
    (k : ℕ) (xs ys : List Pair) (n : ℕ) → k ≤ length xs → slice_get (take k xs ++ ys) (k + n) ≡ slice_get ys n
get_back zero xs ys n within = let none : 0 + n ≡ n = omega arith in rw none refl
get_back (suc k) [] ys n within = absurd (omega arith)
get_back (suc k) (x ∷ xs) ys n within =
    let one : suc k + n ≡ suc (k + n) = omega arith in
    rw one (get_back k xs ys n (omega arith))

pub get_drop : (k : ℕ) (xs : List Pair) (n : ℕ) → slice_get (drop k xs) n ≡ slice_get xs (k + n)
get_drop zero xs n = let none : 0 + n ≡ n = omega arith in rw none refl
get_drop (suc k) [] n = refl
get_drop (suc k) (x ∷ xs) n = let one : suc k + n ≡ suc (k + n) = omega arith in rw one (get_drop k xs n)

-- What matches, place by place.

abbrev pub term_of : Option Pair → Option ℕ
term_of o = option_map (λ e. e.0) o

-- before the first other entry the terms are those that were sent
pub matches_before :
    (old sent : List Pair) (n : ℕ) → n < matching old sent
    → (o : Pair) × (e : Pair) × (slice_get old n ≡ Some o) × (slice_get sent n ≡ Some e) × (o.0 ≡ e.0)
matches_before [] sent n below = absurd (omega arith)
matches_before (o ∷ old) [] n below = absurd (omega arith)
matches_before (o ∷ old) (e ∷ sent) zero below = elim (cases_Bool (o.0 == e.0)) [
  | inl same ↦ (o, e, refl, refl, eqb-true o.0 e.0 same)
  | inr other ↦ let none : 0 < 0 = rw other at below in absurd (omega (arith, none))
]
matches_before (o ∷ old) (e ∷ sent) (suc n) below = elim (cases_Bool (o.0 == e.0)) [
  | inl same ↦
      let more : suc n < 1 + matching old sent = rw same at below in
      matches_before old sent n (omega (arith, more))
  | inr other ↦ let none : suc n < 0 = rw other at below in absurd (omega (arith, none))
]

-- the first other entry isn't there with its term
pub other_there :
    (old sent : List Pair) → matching old sent < length sent
    → (e : Pair) × (slice_get sent (matching old sent) ≡ Some e) × (term_of (slice_get old (matching old sent)) ≢ Some e.0)
other_there [] [] more = absurd (omega arith)
other_there [] (e ∷ sent) more = (e, refl, λ same. cc)
other_there (o ∷ old) [] more = absurd (omega arith)
other_there (o ∷ old) (e ∷ sent) more = elim (cases_Bool (o.0 == e.0)) [
  | inl same ↦
      let one : 1 + matching old sent ≡ suc (matching old sent) = omega arith in
      let next : 1 + matching old sent < suc (length sent) = rw same at more in
      rw (same, one) (other_there old sent (omega (arith, next)))
  | inr other ↦ rw other (e, refl, λ same. let level : o.0 ≡ e.0 = cc in false≢true (sym other ∙ eq-eqb o.0 e.0 level))
]

pub matching-le : (old sent : List Pair) → (matching old sent ≤ length old) × (matching old sent ≤ length sent)
matching-le old sent = common_prefix_len-le (λ (e s : Pair). e.0 == s.0) old sent

-- the merged list keeps what matches ..
pub get_merged_front :
    (old sent : List Pair) (n : ℕ) → n < matching old sent → slice_get (merged old sent) n ≡ slice_get old n
get_merged_front old sent n below = elim (cases_Bool (matching old sent == length sent)) [
  | inl all ↦ rw all refl
  | inr more ↦ rw more (get_front (matching old sent) old (drop (matching old sent) sent) n below (matching-le old sent).0)
]

-- .. and has what was sent from there on
pub get_merged_back :
    (old sent : List Pair) (n : ℕ) → matching old sent < length sent → matching old sent ≤ n
    → slice_get (merged old sent) n ≡ slice_get sent n
get_merged_back old sent n less past =
    let m = matching old sent in
    let more : (m == length sent) ≡ false = grind (arith, nat_tests) in
    let place : m + (n - m) ≡ n = omega arith in
    rw more (ap (λ k. slice_get (take m old ++ drop m sent) k) (sym place) ∙ get_back m old (drop m sent) (n - m) (matching-le old sent).0
    ∙ get_drop m sent (n - m) ∙ ap (λ k. slice_get sent k) place)

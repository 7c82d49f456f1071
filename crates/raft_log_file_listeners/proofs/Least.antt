-- The least of what was said, one after another.
use Rattle.std.specs.Prelude.{◌++◌, [], ◌∷◌, ◌⊎◌, ℕ, List, Option, Some, None, IfSome, All, slice_index_or}
use Rattle.std.specs.List.{AllZip}
use Rattle.std.proofs.Common.{◌≡◌, ◌+◌, ◌<◌, ◌≤◌, inl, inr, refl, sym, subst, ap, take, length, ◌∙◌, arith}
use Rattle.std.proofs.Math.Nat.{min-eq_left, min-eq_right}
use Rattle.std.proofs.lemmas.Bool.{cases_lt}
use Rattle.std.proofs.lemmas.List.{take_more}
use Rattle.std.proofs.lemmas.List.Elements.{All-nil, All-push, All-weaker, Contains-append_left, Contains-push}
use Rattle.raft_log_file_listeners.specs.Least.{AllHoldBack, BothHoldBack, IsLeast, lesser}

-- what isn't there is no less than a number
no_less : (n : ℕ) (one : Option ℕ) → one ≡ None → IfSome one (λ m. n ≤ m)
no_less n one is = rw is tt

-- what is no less than a number is no less than a lesser one
less_yet : (n k : ℕ) → k ≤ n → (one : Option ℕ) → IfSome one (λ m. n ≤ m) → IfSome one (λ m. k ≤ m)
less_yet n k less None least = tt
less_yet n k less (Some m) least = omega (arith, less, least)

-- a number behind others, none of which is less, is the least
least_last : (said : List (Option ℕ)) (m : ℕ) → All (λ one. IfSome one (λ k. m ≤ k)) said
    → IsLeast (said ++ Some m ∷ []) (Some m)
least_last said m least = (Contains-push said (Some m), All-push (λ one. IfSome one (λ k. m ≤ k)) said (Some m) least (omega arith))

-- the least of some stays so behind one that is no less
least_still : (said : List (Option ℕ)) (n : ℕ) (next : Option ℕ) → IsLeast said (Some n)
    → IfSome next (λ m. n ≤ m) → IsLeast (said ++ next ∷ []) (Some n)
least_still said n next (has, least) more = (Contains-append_left said (next ∷ []) (Some n) has, All-push (λ one. IfSome one (λ k. n ≤ k)) said next least more)

least_of_two : (said : List (Option ℕ)) (n m : ℕ) → IsLeast said (Some n) → (m < n) ⊎ (n ≤ m)
    → IsLeast (said ++ Some m ∷ []) (lesser (Some n) (Some m))
least_of_two said n m (has, least) (inl less) =
    subst (λ k. IsLeast (said ++ Some m ∷ []) (Some k)) (sym (min-eq_right {n = m} {m = n} (omega (arith, less))))
    (least_last said m (All-weaker (λ one. IfSome one (λ k. n ≤ k)) (λ one. IfSome one (λ k. m ≤ k)) (less_yet n m (omega (arith, less))) said least))
least_of_two said n m least (inr more) =
    subst (λ k. IsLeast (said ++ Some m ∷ []) (Some k)) (sym (min-eq_left {n = n} {m = m} more)) (least_still said n (Some m) least more)

-- where one more is said, the lesser one of that and the least so far is the least
least_push : (said : List (Option ℕ)) (held next : Option ℕ) → IsLeast said held
    → IsLeast (said ++ next ∷ []) (lesser held next)
least_push said None None least = All-push (λ one. one ≡ None) said None least refl
least_push said None (Some m) least = least_last said m (All-weaker (λ one. one ≡ None) (λ one. IfSome one (λ k. m ≤ k)) (no_less m) said least)
least_push said (Some n) None least = least_still said n None least tt
least_push said (Some n) (Some m) least = least_of_two said n m least (cases_lt m n)

-- one that was said alone is the least
least_alone : (one : Option ℕ) → IsLeast (one ∷ []) one
least_alone None = All-push (λ one. one ≡ None) [] None (All-nil (λ one. one ≡ None)) refl
least_alone (Some n) = least_last [] n (All-nil (λ one. IfSome one (λ k. n ≤ k)))

zip_push : {A B : Type 0} (R : A → B → Type 0) (xs : List A) (ys : List B) (x : A) (y : B) → AllZip R xs ys → R x y
    → AllZip R (xs ++ x ∷ []) (ys ++ y ∷ [])
zip_push R [] [] x y same at = (at, tt)
zip_push R [] (b ∷ ys) x y same at = absurd same
zip_push R (a ∷ xs) [] x y same at = absurd same
zip_push R (a ∷ xs) (b ∷ ys) x y (first, same) at = (first, zip_push R xs ys x y same at)

-- none of nobody
pub none_hold_back : {A : Type 0} (holds : A → Option ℕ → Type 0) → AllHoldBack holds [] None
none_hold_back holds = record { said = []; each = tt; least = All-nil (λ one. one ≡ None) }

-- one more of these
pub one_more_holds_back : {A : Type 0} (holds : A → Option ℕ → Type 0) (all : List A) (i : ℕ) (x : A) (held next : Option ℕ)
    → i < length all → x ≡ slice_index_or all i x → AllHoldBack holds (take i all) held → holds x next → AllHoldBack holds (take (i + 1) all) (lesser held next)
one_more_holds_back holds all i x held next lt is so_far at =
    let more : take (i + 1) all ≡ take i all ++ x ∷ [] = take_more all i x lt ∙ ap (λ k. take i all ++ k ∷ []) (sym is) in
    subst (λ xs. AllHoldBack holds xs (lesser held next)) (sym more) (record {
      said = so_far.said ++ next ∷ [];
      each = zip_push holds (take i all) so_far.said x next so_far.each at;
      least = least_push so_far.said held next so_far.least;
    })

-- both
pub both_hold_back : (one other : Option ℕ → Type 0) (a b : Option ℕ) → one a → other b → BothHoldBack one other (lesser a b)
both_hold_back one other a b says says_too = record {
  first = a;
  second = b;
  says = says;
  says_too = says_too;
  least = least_push (a ∷ []) a b (least_alone a);
}

-- No byte of an escaped text is a mark.
use Rattle.std.proofs.Common.{◌≡◌, ℕ, ◌+◌, ◌<◌, ◌≤◌, ◌==◌, ◌||◌, Bool, true, false, cond, List, [], ◌∷◌, ◌++◌, encode_utf8, flat_map, length, get_or, append-nil, refl, sym, subst, ⊎_elim, arith}
use Rattle.std.proofs.lemmas.Bool.{cases_lt}
use Rattle.std.proofs.lemmas.Bool.Decides.{nat_tests}
use Rattle.std.proofs.lemmas.Grind.{common_steps}
use Rattle.std.proofs.lemmas.Str.{encode_ascii, inside_one}
use Rattle.std.specs.List.{list_any}
use Rattle.raft_voter_timeline.specs.Escape.{EscapedHasNoMark, escaped, has_no_place, is_mark}

-- a test, by its two cases
by_test : {X : Type 0} (P : X → Type 0) (b : Bool) (x y : X) → (b ≡ true → P x) → (b ≡ false → P y) → P (cond b x y)
by_test P true x y f g = f refl
by_test P false x y f g = g refl

or_false : (a b : Bool) → a ≡ false → b ≡ false → (a || b) ≡ false
or_false true b f g = f
or_false false b f g = g

or_none : (a b c : Bool) → (a || b) ≡ false → (b ≡ false → c ≡ false) → (a || c) ≡ false
or_none true b c f g = f
or_none false b c f g = g f

none_append : (xs ys : List ℕ) → list_any is_mark xs ≡ false → list_any is_mark ys ≡ false → list_any is_mark (xs ++ ys) ≡ false
none_append [] ys f g = g
none_append (x ∷ xs) ys f g =
    or_none (is_mark x) (list_any is_mark xs) (list_any is_mark (xs ++ ys)) f (λ h. none_append xs ys h g)

wide_mark : (b : ℕ) → 128 ≤ b → is_mark b ≡ false
wide_mark b h =
    let lt : (b == 60) ≡ false = grind (arith, nat_tests) in
    let gt : (b == 62) ≡ false = grind (arith, nat_tests) in
    let double : (b == 34) ≡ false = grind (arith, nat_tests) in
    let single : (b == 39) ≡ false = grind (arith, nat_tests) in
    grind (arith, nat_tests, lt, gt, double, single)

wide_cons : (b : ℕ) (bs : List ℕ) → 128 ≤ b → list_any is_mark bs ≡ false → list_any is_mark (b ∷ bs) ≡ false
wide_cons b bs h g = or_false (is_mark b) (list_any is_mark bs) (wide_mark b h) g

wide_bytes : (c k : ℕ) → 128 ≤ c → k < length (encode_utf8 c) → 128 ≤ get_or (encode_utf8 c) k 0
wide_bytes c k h lt = grind (arith, inside_one c [] (encode_utf8 c) k (sym (append-nil (encode_utf8 c))) lt)

none_wide : (bs : List ℕ) → ((k : ℕ) → k < length bs → 128 ≤ get_or bs k 0) → list_any is_mark bs ≡ false
none_wide [] h = refl
none_wide (b ∷ bs) h =
    let head : 128 ≤ b = grind (arith, common_steps, h 0) in
    let tail : (k : ℕ) → k < length bs → 128 ≤ get_or bs k 0 = λ k lt. grind (arith, common_steps, h (k + 1)) in
    wide_cons b bs head (none_wide bs tail)

-- the bytes of a character that is no mark
own_bytes : (c : ℕ) → is_mark c ≡ false → list_any is_mark (encode_utf8 c) ≡ false
own_bytes c other =
    ⊎_elim
    (λ low. subst (λ bs. list_any is_mark bs ≡ false) (sym (encode_ascii c low)) (or_false (is_mark c) false other refl))
    (λ wide. none_wide (encode_utf8 c) (λ k lt. wide_bytes c k wide lt))
    (cases_lt c 128)

no_mark : (c : ℕ) → (c == 60) ≡ false → (c == 62) ≡ false → (c == 34) ≡ false → (c == 39) ≡ false → is_mark c ≡ false
no_mark c lt gt double single = grind (arith, nat_tests, lt, gt, double, single)

escaped_plain : (c : ℕ) → list_any is_mark (escaped c) ≡ false
unfolding escaped
escaped_plain c =
    by_test (λ (bs : List ℕ). list_any is_mark bs ≡ false) (c == 38) _ _ (λ amp. refl) (λ no_amp.
    by_test (λ (bs : List ℕ). list_any is_mark bs ≡ false) (c == 60) _ _ (λ is. refl) (λ lt.
    by_test (λ (bs : List ℕ). list_any is_mark bs ≡ false) (c == 62) _ _ (λ is. refl) (λ gt.
    by_test (λ (bs : List ℕ). list_any is_mark bs ≡ false) (c == 34) _ _ (λ is. refl) (λ double.
    by_test (λ (bs : List ℕ). list_any is_mark bs ≡ false) (c == 39) _ _ (λ is. refl) (λ single.
    by_test (λ (bs : List ℕ). list_any is_mark bs ≡ false) (has_no_place c) _ _ (λ is. own_bytes 0xFFFD refl)
    (λ place. own_bytes c (no_mark c lt gt double single)))))))

pub escaped_has_no_mark : EscapedHasNoMark
escaped_has_no_mark [] = refl
escaped_has_no_mark (c ∷ cs) = none_append (escaped c) (flat_map escaped cs) (escaped_plain c) (escaped_has_no_mark cs)

-- What digits say, read one by one.
use Rattle.std.proofs.Common.{◌≡◌, ℕ, ◌+◌, ◌-◌, ◌*◌, ◌^◌, ◌<◌, ◌≤◌, ◌∙◌, true, List, [], ◌∷◌, length, drop, get_or, Some, None, refl, arith}
use Rattle.std.proofs.lemmas.List.{at_drop_more, at_drop_all}
use Rattle.std.proofs.lemmas.Bool.Decides.{nat_tests}
use Rattle.std.specs.Char.{digit_value}
use Rattle.std.specs.Char.{is_ascii_digit}
use Rattle.std.specs.Str.Parse.{digits_value_after}
use Rattle.raft_voter_session.specs.Words.{value_from}

-- more digits never say less
pub digits_say_more : (n : ℕ) (ds : List ℕ) → n ≤ digits_value_after 10 n ds
digits_say_more n [] = omega arith
digits_say_more n (d ∷ ds) = omega (arith, digits_say_more (n * 10 + digit_value d) ds)

pub value_from-end : (n : ℕ) → n < 2 ^ 64 → value_from n [] ≡ Some n
unfolding value_from
value_from-end n h = grind arith

pub value_from-digit : (n d : ℕ) (ds : List ℕ) → is_ascii_digit d ≡ true → value_from n (d ∷ ds) ≡ value_from (n * 10 + digit_value d) ds
unfolding value_from
value_from-digit n d ds h = rw h refl

pub value_from-large : (n : ℕ) (ds : List ℕ) → 2 ^ 64 ≤ n → value_from n ds ≡ None
unfolding value_from
value_from-large n ds h = let more = digits_say_more n ds in grind arith

-- digits that say too much already at the next one
pub value_from-overflow : (n i : ℕ) (ds : List ℕ) → i < length ds → is_ascii_digit (get_or ds i 0) ≡ true → 2 ^ 64 ≤ n * 10 + digit_value (get_or ds i 0) → value_from n (drop i ds) ≡ None
value_from-overflow n i ds h digit large =
    at_drop_more (value_from n) ds i 0 h ∙ value_from-digit n (get_or ds i 0) (drop (i + 1) ds) digit ∙ value_from-large _ _ large

pub value_from-all : (n i : ℕ) (ds : List ℕ) → length ds ≤ i → n < 2 ^ 64 → value_from n (drop i ds) ≡ Some n
value_from-all n i ds h fits = at_drop_all (value_from n) ds i h ∙ value_from-end n fits

pub digit_value-ascii : (d : ℕ) → is_ascii_digit d ≡ true → digit_value d ≡ d - 48
digit_value-ascii d h = grind (arith, nat_tests)

-- How many thousandths a float is: the first number that passes a test.
use Rattle.std.proofs.Common.{◌≡◌, ℕ, suc, ◌+◌, ◌-◌, ◌<◌, ◌≤◌, Bool, true, false, Option, None, Some, refl, arith}
use Rattle.std.specs.Float.{Float}
use Rattle.std.specs.Float.Ieee.{eq}
use Rattle.std.specs.List.{find, range_with_len}
use Rattle.raft_log_file_settings.specs.Reading.{thousandths, thousandths_up_to}

-- whether a float is the one nearest to so many thousandths
abbrev pub is_thousandths : Float → ℕ → Bool
is_thousandths x n = eq x (thousandths n)

-- the first number from `n` to `most` of thousandths that the float is
unfoldable pub first_from : ℕ → ℕ → Float → Option ℕ
first_from most n x = find (is_thousandths x) (range_with_len n (most + 1 - n))

-- the search begins at 0
pub first_from-zero : (most : ℕ) (x : Float) → thousandths_up_to most x ≡ first_from most 0 x
unfolding first_from thousandths_up_to
first_from-zero most x =
    let all : most + 1 - 0 ≡ most + 1 = omega arith in
    rw all refl

-- the float isn't `n` thousandths, so the search goes on after it
pub first_from-later : (most n : ℕ) (x : Float) → n < most + 1 → is_thousandths x n ≡ false → first_from most n x ≡ first_from most (n + 1) x
unfolding first_from
first_from-later most n x small fails =
    let more : most + 1 - n ≡ suc (most + 1 - (n + 1)) = omega (arith, small) in
    rw (more, fails) refl

-- the float is `n` thousandths
pub first_from-here : (most n : ℕ) (x : Float) → n < most + 1 → is_thousandths x n ≡ true → first_from most n x ≡ Some n
unfolding first_from
first_from-here most n x small passes =
    let more : most + 1 - n ≡ suc (most + 1 - (n + 1)) = omega (arith, small) in
    rw (more, passes) refl

-- no number is left
pub first_from-none : (most n : ℕ) (x : Float) → most + 1 ≤ n → first_from most n x ≡ None
unfolding first_from
first_from-none most n x large =
    let none : most + 1 - n ≡ 0 = omega (arith, large) in
    rw none refl

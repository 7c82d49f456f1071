-- Numbers that rise by as much each time.
use Rattle.std.proofs.Common.{◌≡◌, ℕ, zero, suc, ◌+◌, ◌*◌, ◌<◌, length, slice_index, refl, ap, ◌∙◌, arith, suc-mul, zero-mul}
use Rattle.raft_log_extents.specs.Blocks.{rising}

pub length_rising : (x s n : ℕ) → length (rising x s n) ≡ n
length_rising x s zero = refl
length_rising x s (suc n) = ap suc (length_rising (x + s) s n)

pub rising_at : (x s n i : ℕ) → i < n → slice_index (rising x s n) i ≡ x + i * s
rising_at x s zero i h = absurd (omega (arith, h))
rising_at x s (suc n) zero h = let none = zero-mul s in omega (arith, none)
rising_at x s (suc n) (suc i) h =
    let one = suc-mul i s in
    let same : x + s + i * s ≡ x + suc i * s = omega (arith, one) in
    rising_at (x + s) s n i (omega (arith, h)) ∙ same

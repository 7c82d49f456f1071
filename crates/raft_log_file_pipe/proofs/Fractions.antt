-- A fraction of a number, reckoned without a product of it.
use Rattle.std.proofs.Common.{◌≡◌, ℕ, ◌+◌, ◌*◌, ◌/◌, ◌%◌, ◌<◌, sym, ◌∙◌, ap}
use Rattle.std.proofs.lemmas.Nat.{div-add-mod'}
use Rattle.std.proofs.Math.Nat.{mul-add-div_right, mul_right_comm, mul_comm, mul-add}

-- the parts of a sum, each times a number
sum_times : (x y a : ℕ) → (x + y) * a ≡ x * a + y * a
sum_times x y a = mul_comm (x + y) a ∙ mul-add a x y ∙ ap (λ (n : ℕ). n + a * y) (mul_comm a x) ∙ ap (λ (n : ℕ). x * a + n) (mul_comm a y)

-- so many of a number's parts: those of its whole parts, and of what is left
pub fraction : (n a d : ℕ) → 0 < d → n / d * a + n % d * a / d ≡ n * a / d
fraction n a d some =
    let whole : n * a ≡ n / d * a * d + n % d * a = ap (λ (m : ℕ). m * a) (sym (div-add-mod' n d)) ∙ sum_times (n / d * d) (n % d) a ∙ ap (λ (m : ℕ). m + n % d * a) (mul_right_comm (n / d) d a) in
    sym (ap (λ (m : ℕ). m / d) whole ∙ mul-add-div_right some (n / d * a) (n % d * a))

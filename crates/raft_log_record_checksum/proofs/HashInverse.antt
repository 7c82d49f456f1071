-- What undoes the steps of the hash.
use Rattle.std.proofs.Common.{◌≡◌, ℕ, ◌+◌, ◌*◌, ◌/◌, ◌%◌, ◌^◌, ◌<◌, ◌≤◌, sym, ap, ◌∙◌, arith}
use Rattle.std.specs.Prelude.{bit_xor}
use Rattle.std.proofs.Math.Nat.{mul_assoc, pow-le-pow_right, div-eq_of_lt}
use Rattle.std.proofs.lemmas.Nat.{xor_shr, shr-shr, mul-mod_first, mul-mod_second, xor_lt, shr_le}
use lib.Bits.{xor_assoc, xor_self, xor_zero_r}
use Rattle.raft_log_record_checksum.specs.Hash.{fold_down}

xor_twice : (a p : ℕ) → bit_xor (bit_xor a p) p ≡ a
xor_twice a p = xor_assoc a p p ∙ ap (λ x. bit_xor a x) (xor_self p) ∙ xor_zero_r a

pub unfolded : (k x : ℕ) → 22 ≤ k → x < 2 ^ 64 → bit_xor (bit_xor (fold_down k x) (fold_down k x / 2 ^ k)) (fold_down k x / 2 ^ (2 * k)) ≡ x
unfolded k x large lt =
    let a : ℕ = x / 2 ^ k in
    let b : ℕ = x / 2 ^ (k + k) in
    let twice : 2 * k ≡ k + k = omega arith in
    let above : 2 ^ 64 ≤ 2 ^ (k + (k + k)) = pow-le-pow_right {n = 2} (omega arith) {i = 64} {j = k + (k + k)} (omega arith) in
    let none : a / 2 ^ (k + k) ≡ 0 = shr-shr x k (k + k) ∙ div-eq_of_lt (omega arith) in
    let one : fold_down k x / 2 ^ k ≡ bit_xor a b = xor_shr x a k ∙ ap (λ z. bit_xor a z) (shr-shr x k k) in
    let two : fold_down k x / 2 ^ (2 * k) ≡ b = ap (λ j. fold_down k x / 2 ^ j) twice ∙ xor_shr x a (k + k) ∙ ap (λ z. bit_xor b z) none ∙ xor_zero_r b in
    let inner : bit_xor (fold_down k x) (bit_xor a b) ≡ bit_xor x b = sym (xor_assoc (bit_xor x a) a b) ∙ ap (λ z. bit_xor z b) (xor_twice x a) in
    ap (λ z. bit_xor (bit_xor (fold_down k x) z) (fold_down k x / 2 ^ (2 * k))) one ∙ ap (λ z. bit_xor (bit_xor (fold_down k x) (bit_xor a b)) z) two ∙ ap (λ z. bit_xor z b) inner ∙ xor_twice x b

-- a product and the inverse of its factor
pub unmultiplied : (x f g : ℕ) → x < 2 ^ 64 → f * g % 2 ^ 64 ≡ 1 → (x * f % 2 ^ 64) * g % 2 ^ 64 ≡ x
unmultiplied x f g lt inverse =
    let once : x * 1 % 2 ^ 64 ≡ x = omega arith in
    mul-mod_first (x * f) g (2 ^ 64) ∙ ap (λ p. p % 2 ^ 64) (mul_assoc x f g) ∙ sym (mul-mod_second x (f * g) (2 ^ 64)) ∙ ap (λ p. x * p % 2 ^ 64) inverse ∙ once

-- the three steps, from the last to the first
pub fold_below : (k x : ℕ) → x < 2 ^ 64 → fold_down k x < 2 ^ 64
fold_below k x lt = xor_lt 64 x (x / 2 ^ k) lt (omega (arith, shr_le x k))

abbrev pub first_product : ℕ → ℕ
first_product x = fold_down 30 x * 0xBF58476D1CE4E5B9 % 2 ^ 64

abbrev pub second_product : ℕ → ℕ
second_product x = fold_down 27 (first_product x) * 0x94D049BB133111EB % 2 ^ 64

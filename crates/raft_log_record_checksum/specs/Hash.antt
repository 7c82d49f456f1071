-- The hash that spreads group numbers over tables: the last steps of splitmix64.
use Rattle.std.specs.Prelude.{ℕ, ◌*◌, ◌/◌, ◌%◌, ◌^◌, bit_xor}

-- `x` xored with itself shifted right by `k` bits
abbrev pub fold_down : ℕ → ℕ → ℕ
fold_down k x = bit_xor x (x / 2 ^ k)

-- `x` is folded by 30, 27 and 31 bits. After the first fold and after the second, it is multiplied by a constant modulo
-- 2 ^ 64.
unfoldable pub hash_of : ℕ → ℕ
hash_of x =
    fold_down 31 (fold_down 27 (fold_down 30 x * 0xBF58476D1CE4E5B9 % 2 ^ 64) * 0x94D049BB133111EB % 2 ^ 64)

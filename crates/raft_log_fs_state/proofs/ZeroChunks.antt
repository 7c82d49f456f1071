-- Zeros that are looked for a chunk at a time.
use Rattle.std.specs.Prelude.{◌≡◌, ℕ, zero, suc, ◌+◌, ◌-◌, ◌*◌, ◌^◌, ◌≤◌, List, length}
use Rattle.std.specs.List.{All}
use Rattle.std.specs.Int.{Width, byte_len, byte_worth, sum_through, from_le_bytes}
use Rattle.std.specs.Simd.{first_chunks}
use Rattle.std.proofs.Common.{arith, inl, inr, get_or, take, drop}
use Rattle.std.proofs.Math.Nat.{one-le-pow, le-mul_of_pos_right}
use Rattle.std.proofs.Math.Seq.{take-add}
use Rattle.std.proofs.lemmas.List.{take-append-drop}
use Rattle.std.proofs.lemmas.List.Elements.{All-nil, All-head, All-tail, All-append, All-from_get_or}
use Rattle.std.proofs.lemmas.Bool.{cases_lt}

-- where a sum is 0 each part is
part_of_zero : (f : ℕ → ℕ) (k i : ℕ) → sum_through f k ≡ 0 → i ≤ k → f i ≡ 0
part_of_zero f zero i none within = let first : i ≡ 0 = omega (arith, within) in rw first none
part_of_zero f (suc k) i none within = elim (cases_lt i (suc k)) [
  | inl less ↦ part_of_zero f k i (omega (arith, none)) (omega (arith, less))
  | inr last ↦ let is : i ≡ suc k = omega (arith, last, within) in rw is (omega (arith, none))
]

byte_of_zero : (i byte : ℕ) → byte_worth i byte ≡ 0 → byte ≡ 0
byte_of_zero zero byte none = none
byte_of_zero (suc i) byte none =
    let some : 1 ≤ 256 ^ suc i = one-le-pow (suc i) 256 (omega arith) in
    omega (arith, le-mul_of_pos_right {m = 256 ^ suc i} byte some, none)

-- a number that is 0 has zeros as its bytes
pub bytes_of_zero : (w : Width) (bytes : List ℕ) → length bytes ≤ byte_len w - 1 + 1 → from_le_bytes w bytes ≡ 0 → All (λ byte. byte ≡ 0) bytes
bytes_of_zero w bytes short none = All-from_get_or (λ (byte : ℕ). byte ≡ 0) bytes 0 (λ i inside.
    byte_of_zero i (get_or bytes i 0) (part_of_zero (λ n. byte_worth n (get_or bytes n 0)) (byte_len w - 1) i none (omega (arith, short, inside))))

chunks_joined : (size count : ℕ) (bytes : List ℕ) → All (All (λ byte. byte ≡ 0)) (first_chunks size count bytes) → All (λ byte. byte ≡ 0) (take (count * size) bytes)
chunks_joined size zero bytes each = let none : zero * size ≡ 0 = omega arith in rw none (All-nil (λ (byte : ℕ). byte ≡ 0))
chunks_joined size (suc count) bytes each =
    let P : ℕ → Type 0 = λ byte. byte ≡ 0 in
    let more : suc count * size ≡ size + count * size = omega arith in
    let rest : List ℕ = drop size bytes in
    let first = All-head (All P) (take size bytes) (first_chunks size count rest) each in
    let others = chunks_joined size count rest (All-tail (All P) (take size bytes) (first_chunks size count rest) each) in
    rw (more, take-add size (count * size) bytes) (All-append P (take size bytes) (take (count * size) rest) first others)

-- bytes are zeros where their chunks are, and those behind the chunks
pub zeros_by_chunks : (size count : ℕ) (bytes : List ℕ) → All (All (λ byte. byte ≡ 0)) (first_chunks size count bytes) → All (λ byte. byte ≡ 0) (drop (count * size) bytes)
    → All (λ byte. byte ≡ 0) bytes
zeros_by_chunks size count bytes each behind =
    rw (take-append-drop (count * size) bytes) at
    (All-append (λ (byte : ℕ). byte ≡ 0) (take (count * size) bytes) (drop (count * size) bytes) (chunks_joined size count bytes each) behind)

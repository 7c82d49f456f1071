-- The loop that reads a number of variable length: the low digits are read, the others follow.
use Rattle.std.proofs.Common.{◌≡◌, ℕ, zero, suc, ◌+◌, ◌-◌, ◌*◌, ◌%◌, ◌^◌, ◌<◌, ◌≤◌, ltb, true, false, List, [], ◌∷◌, length, length-drop, get_or, take, drop, Result, Ok, Err, refl, sym, ap, subst, ◌∙◌, arith, add-one}
use Rattle.std.proofs.Math.Seq.{drop-cons}
use Rattle.std.proofs.lemmas.Bool.{lt-ltb, le-ltb}
use Rattle.std.proofs.lemmas.List.{drop_all, take_all}
use Rattle.std.proofs.lemmas.Nat.{pow-add, and_mask, shl_whole, mul-add-lt, pow_below}
use Rattle.std.specs.Prelude.{bit_and}
use Rattle.std.specs.declared.io.ErrorKind.TheVariants.{UnexpectedEof, InvalidData}
use Rattle.raft_log_record_base.specs.declared.codec.error.Error.{Error}
use Rattle.raft_log_record_base.specs.declared.codec.error.Error.TheVariants.{Io}
use Rattle.raft_log_record_base.specs.Grammar.{◌>>=◌}
use Rattle.raft_log_record_base.specs.Number.{var_within, var_u64_at}

-- low digits before what is read, which counts in units
abbrev pub added : ℕ → ℕ → Result (ℕ × List ℕ) Error → Result (ℕ × List ℕ) Error
added low unit read = read >>= λ x. Ok (low + unit * x.0, x.1)

-- nothing is read yet
pub added_none : (read : Result (ℕ × List ℕ) Error) → added 0 (2 ^ (7 * 0)) read ≡ read
added_none (Ok x) = let same : 0 + 2 ^ (7 * 0) * x.0 ≡ x.0 = omega arith in rw same refl
added_none (Err e) = refl

regroup : (low unit b : ℕ) (read : Result (ℕ × List ℕ) Error) → added low unit (read >>= λ x. Ok (b + 128 * x.0, x.1)) ≡ added (low + b * unit) (unit * 128) read
regroup low unit b (Ok x) = let same : low + unit * (b + 128 * x.0) ≡ (low + b * unit) + unit * 128 * x.0 = omega arith in rw same refl
regroup low unit b (Err e) = refl

unit_grows : (i : ℕ) → 2 ^ (7 * (i + 1)) ≡ 2 ^ (7 * i) * 128
unit_grows i = let k : 7 * (i + 1) ≡ 7 * i + 7 = omega arith in rw k (pow-add 2 (7 * i) 7)

front_is : (i : ℕ) (bytes : List ℕ) → i < length bytes → drop i bytes ≡ get_or bytes i 0 ∷ drop (i + 1) bytes
front_is i bytes lt = rw add-one (drop-cons bytes i 0 lt)

-- what a byte adds, as the loop computes it
abbrev pub digit : ℕ → ℕ → ℕ
digit b i = bit_and b 127 * 2 ^ (7 * i) % 2 ^ 64

digit_is : (b i : ℕ) → i < 9 → digit b i ≡ (b % 128) * 2 ^ (7 * i)
digit_is b i few =
    let low_bits : bit_and b 127 ≡ b % 128 = and_mask b 7 in
    rw low_bits (shl_whole (b % 128) 7 (7 * i) 64 (omega arith) (omega arith))

pub digit_below : (b low i : ℕ) → i < 9 → low < 2 ^ (7 * i) → low + digit b i < 2 ^ (7 * (i + 1))
digit_below b low i few below =
    let sum : (b % 128) * 2 ^ (7 * i) + low < 2 ^ (7 * i) * 128 = mul-add-lt (b % 128) (2 ^ (7 * i)) low 128 (omega arith) below in
    rw (unit_grows i, digit_is b i few) (omega arith)

pub digit_fits : (b low i : ℕ) → i < 9 → low < 2 ^ (7 * i) → low + digit b i < 2 ^ 64
digit_fits b low i few below = omega (arith, digit_below b low i few below, pow_below (7 * (i + 1)) 64 (omega arith))

-- a byte with the top bit
pub var_goes_on : (low i : ℕ) (bytes : List ℕ) (total : Result (ℕ × List ℕ) Error) → i < 9 → i < length bytes → 128 ≤ get_or bytes i 0
    → added low (2 ^ (7 * i)) (var_within (9 - i) (drop i bytes)) ≡ total
    → added (low + digit (get_or bytes i 0) i) (2 ^ (7 * (i + 1))) (var_within (9 - (i + 1)) (drop (i + 1) bytes)) ≡ total
unfolding var_within
var_goes_on low i bytes total few within top so_far =
    let k : 9 - i ≡ suc (9 - (i + 1)) = omega arith in
    let test : ltb (get_or bytes i 0) 128 ≡ false = le-ltb _ _ top in
    let one : added low (2 ^ (7 * i)) (var_within (9 - i) (drop i bytes)) ≡ added (low + (get_or bytes i 0 % 128) * 2 ^ (7 * i)) (2 ^ (7 * i) * 128) (var_within (9 - (i + 1)) (drop (i + 1) bytes))
    = rw (k, front_is i bytes within, test) (regroup low (2 ^ (7 * i)) (get_or bytes i 0 % 128) (var_within (9 - (i + 1)) (drop (i + 1) bytes))) in
    rw (unit_grows i, digit_is (get_or bytes i 0) i few) (sym one ∙ so_far)

-- the last byte
pub var_ends : (low i : ℕ) (bytes : List ℕ) (total : Result (ℕ × List ℕ) Error) → i < 9 → i < length bytes → get_or bytes i 0 < 128
    → added low (2 ^ (7 * i)) (var_within (9 - i) (drop i bytes)) ≡ total
    → total ≡ Ok (low + digit (get_or bytes i 0) i, drop (i + 1) bytes)
unfolding var_within
var_ends low i bytes total few within small so_far =
    let k : 9 - i ≡ suc (9 - (i + 1)) = omega arith in
    let test : ltb (get_or bytes i 0) 128 ≡ true = lt-ltb _ _ small in
    let same : low + 2 ^ (7 * i) * get_or bytes i 0 ≡ low + digit (get_or bytes i 0) i
    = let m : get_or bytes i 0 % 128 ≡ get_or bytes i 0 = omega arith in rw (digit_is (get_or bytes i 0) i few, m) (omega arith) in
    let one : added low (2 ^ (7 * i)) (var_within (9 - i) (drop i bytes)) ≡ Ok (low + 2 ^ (7 * i) * get_or bytes i 0, drop (i + 1) bytes)
    = rw (k, front_is i bytes within, test) refl in
    sym so_far ∙ one ∙ ap (λ n. Ok (n, drop (i + 1) bytes)) same

no_bytes : (low unit left : ℕ) → added low unit (var_within left []) ≡ Err (Io UnexpectedEof)
unfolding var_within
no_bytes low unit zero = refl
no_bytes low unit (suc left) = refl

-- the bytes end first
pub var_stops : (low i : ℕ) (bytes : List ℕ) (total : Result (ℕ × List ℕ) Error) → length bytes ≤ i
    → added low (2 ^ (7 * i)) (var_within (9 - i) (drop i bytes)) ≡ total → total ≡ Err (Io UnexpectedEof)
var_stops low i bytes total over so_far = sym so_far ∙ rw (drop_all i bytes over) (no_bytes low (2 ^ (7 * i)) (9 - i))

-- the tenth byte
at_nine : (low : ℕ) (bytes : List ℕ) (i : ℕ) (total : Result (ℕ × List ℕ) Error) → i ≡ 9 → added low (2 ^ (7 * i)) (var_within (9 - i) (drop i bytes)) ≡ total → added low (2 ^ 63) (var_within 0 (drop 9 bytes)) ≡ total
at_nine low bytes i total is so_far = let P : ℕ → Type 0 = λ k. added low (2 ^ (7 * k)) (var_within (9 - k) (drop k bytes)) ≡ total in subst P is so_far

pub var_last : (low i : ℕ) (bytes : List ℕ) (total : Result (ℕ × List ℕ) Error) → i ≡ 9 → 9 < length bytes → get_or bytes 9 0 ≤ 1
    → added low (2 ^ (7 * i)) (var_within (9 - i) (drop i bytes)) ≡ total → total ≡ Ok (low + get_or bytes 9 0 * 2 ^ 63 % 2 ^ 64, drop 10 bytes)
unfolding var_within
var_last low i bytes total is within small so_far =
    let test : ltb (get_or bytes 9 0) 2 ≡ true = lt-ltb _ _ (omega arith) in
    let same : low + 2 ^ 63 * get_or bytes 9 0 ≡ low + get_or bytes 9 0 * 2 ^ 63 % 2 ^ 64 = omega arith in
    let one : added low (2 ^ 63) (var_within 0 (drop 9 bytes)) ≡ Ok (low + 2 ^ 63 * get_or bytes 9 0, drop 10 bytes)
    = rw (front_is 9 bytes within, test) refl in
    sym (at_nine low bytes i total is so_far) ∙ one ∙ ap (λ n. Ok (n, drop 10 bytes)) same

pub var_over : (low i : ℕ) (bytes : List ℕ) (total : Result (ℕ × List ℕ) Error) → i ≡ 9 → 9 < length bytes → 1 < get_or bytes 9 0
    → added low (2 ^ (7 * i)) (var_within (9 - i) (drop i bytes)) ≡ total → total ≡ Err (Io InvalidData)
unfolding var_within
var_over low i bytes total is within large so_far =
    let test : ltb (get_or bytes 9 0) 2 ≡ false = le-ltb _ _ large in
    sym (at_nine low bytes i total is so_far) ∙ rw (front_is 9 bytes within, test) refl

-- ---- a number of two bytes

pub var_two : (bytes : List ℕ) (n : ℕ) → 2 ≤ length bytes → 128 ≤ get_or bytes 0 0 → get_or bytes 1 0 < 128 → n ≡ get_or bytes 0 0 % 128 + get_or bytes 1 0 * 128 → var_u64_at bytes ≡ Ok (n, take (length bytes - 2) (drop 2 bytes))
unfolding var_u64_at
var_two bytes n within top small is =
    let total : Result (ℕ × List ℕ) Error = var_u64_at bytes in
    let low : ℕ = 0 + digit (get_or bytes 0 0) 0 in
    let one : added low (2 ^ (7 * 1)) (var_within (9 - 1) (drop 1 bytes)) ≡ total = var_goes_on 0 0 bytes total (omega arith) (omega arith) top (added_none total) in
    let two : total ≡ Ok (low + digit (get_or bytes 1 0) 1, drop 2 bytes) = var_ends low 1 bytes total (omega arith) (omega arith) small one in
    let number : low + digit (get_or bytes 1 0) 1 ≡ n = omega (arith, is, digit_is (get_or bytes 0 0) 0 (omega arith), digit_is (get_or bytes 1 0) 1 (omega arith)) in
    let rest : take (length bytes - 2) (drop 2 bytes) ≡ drop 2 bytes = take_all (length bytes - 2) (drop 2 bytes) (omega (arith, length-drop 2 bytes)) in
    rw (rest, ← number) two

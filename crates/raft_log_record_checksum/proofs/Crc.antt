-- The register of the CRC is linear in its bits, so each byte counts for itself.
use Rattle.std.proofs.Common.{◌≡◌, ℕ, zero, suc, ◌+◌, ◌*◌, ◌/◌, ◌%◌, ◌^◌, ◌<◌, ◌≤◌, List, [], ◌∷◌, ◌++◌, length, get_or, take, drop, refl, sym, ap, ◌∙◌, ◌⊎◌, inl, inr, arith, add-one, length-append}
use Rattle.std.specs.Prelude.{bit_xor, bit_and}
use Rattle.std.specs.List.{concat}
use Rattle.std.specs.Int.{w32, sum_through, byte_at, byte_worth, from_le_bytes}
use Rattle.std.specs.Simd.{first_chunks}
use Rattle.std.proofs.Math.Nat.{pow-suc}
use Rattle.std.proofs.Math.Seq.{take-add, drop-cons}
use Rattle.std.proofs.lemmas.List.{take-append-drop, drop_all}
use Rattle.std.proofs.lemmas.Bool.{cases_lt}
use Rattle.std.proofs.lemmas.Nat.{xor_mod, xor_shr, xor_comm, and_mask}
use lib.Bits.{xor_assoc, xor_self, xor_zero_r, xor_shifted, shifted_half, shifted_even}
use Rattle.raft_log_record_checksum.specs.Checksum.{crc_bit, crc_bits, crc_after}

-- ---- the order of terms

pub xor_swap : (a b c : ℕ) → bit_xor (bit_xor a b) c ≡ bit_xor (bit_xor a c) b
xor_swap a b c = xor_assoc a b c ∙ ap (λ x. bit_xor a x) (xor_comm b c) ∙ sym (xor_assoc a c b)

pub xor_twice : (a p : ℕ) → bit_xor (bit_xor a p) p ≡ a
xor_twice a p = xor_assoc a p p ∙ ap (λ x. bit_xor a x) (xor_self p) ∙ xor_zero_r a

xor_both : (a b p : ℕ) → bit_xor (bit_xor a p) (bit_xor b p) ≡ bit_xor a b
xor_both a b p = sym (xor_assoc (bit_xor a p) b p) ∙ ap (λ x. bit_xor x p) (xor_swap a p b) ∙ xor_twice (bit_xor a b) p

-- ---- one bit and several are linear

parity : (a b : ℕ) → bit_xor a b % 2 ≡ bit_xor (a % 2) (b % 2)
parity a b = xor_mod a b 1

half : (a b : ℕ) → bit_xor a b / 2 ≡ bit_xor (a / 2) (b / 2)
half a b = xor_shr a b 1

even_bit : (r : ℕ) → r % 2 ≡ 0 → crc_bit r ≡ r / 2
even_bit r e = rw e refl

odd_bit : (r : ℕ) → r % 2 ≡ 1 → crc_bit r ≡ bit_xor (r / 2) 0xEDB88320
odd_bit r e = rw e refl

even_or_odd : (r : ℕ) → (r % 2 ≡ 0) ⊎ (r % 2 ≡ 1)
even_or_odd r = elim (cases_lt (r % 2) 1) [ inl lt ↦ inl (omega arith) | inr le ↦ inr (omega arith) ]

crc_bit-xor : (a b : ℕ) → crc_bit (bit_xor a b) ≡ bit_xor (crc_bit a) (crc_bit b)
crc_bit-xor a b =
    elim (even_or_odd a) [
      | inl ea ↦ elim (even_or_odd b) [
        | inl eb ↦ rw (even_bit a ea, even_bit b eb) (even_bit (bit_xor a b) (parity a b ∙ rw (ea, eb) refl) ∙ half a b)
        | inr ob ↦ rw (even_bit a ea, odd_bit b ob) (odd_bit (bit_xor a b) (parity a b ∙ rw (ea, ob) refl) ∙ ap (λ x. bit_xor x 0xEDB88320) (half a b) ∙ xor_assoc (a / 2) (b / 2) 0xEDB88320)
      ]
      | inr oa ↦ elim (even_or_odd b) [
        | inl eb ↦ rw (odd_bit a oa, even_bit b eb) (odd_bit (bit_xor a b) (parity a b ∙ rw (oa, eb) refl) ∙ ap (λ x. bit_xor x 0xEDB88320) (half a b) ∙ xor_swap (a / 2) (b / 2) 0xEDB88320)
        | inr ob ↦ rw (odd_bit a oa, odd_bit b ob) (even_bit (bit_xor a b) (parity a b ∙ rw (oa, ob) refl) ∙ half a b ∙ sym (xor_both (a / 2) (b / 2) 0xEDB88320))
      ]
    ]

pub crc_bits-xor : (n a b : ℕ) → crc_bits n (bit_xor a b) ≡ bit_xor (crc_bits n a) (crc_bits n b)
unfolding crc_bits
crc_bits-xor zero a b = refl
crc_bits-xor (suc n) a b = ap (λ r. crc_bits n r) (crc_bit-xor a b) ∙ crc_bits-xor n (crc_bit a) (crc_bit b)

pub crc_bits-add : (m n r : ℕ) → crc_bits (m + n) r ≡ crc_bits n (crc_bits m r)
unfolding crc_bits
crc_bits-add zero n r = let k : zero + n ≡ n = omega arith in ap (λ i. crc_bits i r) k
crc_bits-add (suc m) n r = let k : suc m + n ≡ suc (m + n) = omega arith in ap (λ i. crc_bits i r) k ∙ crc_bits-add m n (crc_bit r)

pub crc_bits-zero : (n : ℕ) → crc_bits n 0 ≡ 0
unfolding crc_bits
crc_bits-zero zero = refl
crc_bits-zero (suc n) = crc_bits-zero n

-- zero bits only leave
pub crc_bits_shift : (n h : ℕ) → crc_bits n (h * 2 ^ n) ≡ h
unfolding crc_bits
crc_bits_shift zero h = let e : h * 2 ^ zero ≡ h = omega arith in e
crc_bits_shift (suc n) h = ap (λ r. crc_bits n r) (even_bit (h * 2 ^ suc n) (shifted_even h n) ∙ shifted_half h n) ∙ crc_bits_shift n h

pub crc_bits_below : (n a h : ℕ) → crc_bits n (bit_xor a (h * 2 ^ n)) ≡ bit_xor (crc_bits n a) h
crc_bits_below n a h = crc_bits-xor n a (h * 2 ^ n) ∙ ap (λ x. bit_xor (crc_bits n a) x) (crc_bits_shift n h)

-- ---- each byte of a word counts for itself

split_byte : (x : ℕ) → x ≡ bit_xor (x % 256) (x / 256 * 2 ^ 8)
split_byte x =
    let joined : bit_xor (x / 256 * 2 ^ 8) (x % 256) ≡ x / 256 * 2 ^ 8 + x % 256 = xor_shifted (x / 256) 8 (x % 256) (omega arith) in
    let whole : x / 256 * 2 ^ 8 + x % 256 ≡ x = omega arith in
    sym (xor_comm (x % 256) (x / 256 * 2 ^ 8) ∙ joined ∙ whole)

fold_first : (k x : ℕ) → crc_bits (8 * (k + 1)) x ≡ bit_xor (crc_bits (8 * (k + 1)) (x % 256)) (crc_bits (8 * k) (x / 256))
fold_first k x =
    let size : 8 * (k + 1) ≡ 8 + 8 * k = omega arith in
    rw size (crc_bits-add 8 (8 * k) x ∙ ap (λ r. crc_bits (8 * k) (crc_bits 8 r)) (split_byte x) ∙ ap (λ r. crc_bits (8 * k) r) (crc_bits_below 8 (x % 256) (x / 256))
    ∙ crc_bits-xor (8 * k) (crc_bits 8 (x % 256)) (x / 256) ∙ ap (λ r. bit_xor r (crc_bits (8 * k) (x / 256))) (sym (crc_bits-add 8 (8 * k) (x % 256))))

fold_byte : (acc k x : ℕ) → bit_xor acc (crc_bits (8 * (k + 1)) x) ≡ bit_xor (bit_xor acc (crc_bits (8 * (k + 1)) (x % 256))) (crc_bits (8 * k) (x / 256))
fold_byte acc k x = ap (λ r. bit_xor acc r) (fold_first k x) ∙ sym (xor_assoc acc (crc_bits (8 * (k + 1)) (x % 256)) (crc_bits (8 * k) (x / 256)))

-- ---- bytes as one word

-- the value of bytes, the lowest first
abbrev pub value_of : List ℕ → ℕ
value_of [] = 0
value_of (b ∷ bs) = b + 256 * value_of bs

byte_below : (b v : ℕ) → b < 256 → b + 256 * v ≡ bit_xor b (v * 2 ^ 8)
byte_below b v lt =
    let joined : bit_xor (v * 2 ^ 8) b ≡ v * 2 ^ 8 + b = xor_shifted v 8 b lt in
    let turned : b + 256 * v ≡ v * 2 ^ 8 + b = omega arith in
    turned ∙ sym (xor_comm b (v * 2 ^ 8) ∙ joined)

crc_after_word : (r : ℕ) (bytes : List ℕ) → ((i : ℕ) → get_or bytes i 0 < 256) → crc_after r bytes ≡ crc_bits (8 * length bytes) (bit_xor r (value_of bytes))
unfolding crc_after crc_bits
crc_after_word r [] fits = sym (xor_zero_r r)
crc_after_word r (b ∷ bs) fits =
    let size : 8 * suc (length bs) ≡ 8 + 8 * length bs = omega arith in
    let joined : bit_xor r (b + 256 * value_of bs) ≡ bit_xor (bit_xor r b) (value_of bs * 2 ^ 8)
    = ap (λ x. bit_xor r x) (byte_below b (value_of bs) (fits 0)) ∙ sym (xor_assoc r b (value_of bs * 2 ^ 8)) in
    let whole : crc_bits (8 * suc (length bs)) (bit_xor r (b + 256 * value_of bs)) ≡ crc_bits (8 * length bs) (bit_xor (crc_bits 8 (bit_xor r b)) (value_of bs))
    = ap (λ n. crc_bits n (bit_xor r (b + 256 * value_of bs))) size ∙ crc_bits-add 8 (8 * length bs) (bit_xor r (b + 256 * value_of bs))
    ∙ ap (λ x. crc_bits (8 * length bs) (crc_bits 8 x)) joined ∙ ap (λ x. crc_bits (8 * length bs) x) (crc_bits_below 8 (bit_xor r b) (value_of bs)) in
    crc_after_word (crc_bits 8 (bit_xor r b)) bs (λ i. fits (suc i)) ∙ sym whole

sum_cons : (b : ℕ) (bs : List ℕ) (n : ℕ) → sum_through (λ i. byte_worth i (get_or (b ∷ bs) i 0)) (suc n) ≡ b + 256 * sum_through (λ i. byte_worth i (get_or bs i 0)) n
sum_cons b bs zero = omega arith
sum_cons b bs (suc n) =
    let grown : 256 ^ suc (suc n) ≡ 256 * 256 ^ suc n = pow-suc 256 (suc n) ∙ omega arith in
    let last : ℕ = get_or bs (suc n) 0 in
    omega (arith, sum_cons b bs n, ap (λ p. last * p) grown)

sum_value : (n : ℕ) (bytes : List ℕ) → length bytes ≡ suc n → sum_through (λ i. byte_worth i (get_or bytes i 0)) n ≡ value_of bytes
sum_value n [] e = absurd (omega arith)
sum_value zero (b ∷ []) e = omega arith
sum_value zero (b ∷ c ∷ bs) e = absurd (omega arith)
sum_value (suc n) (b ∷ bs) e = sum_cons b bs n ∙ ap (λ v. b + 256 * v) (sum_value n bs (omega arith))

-- ---- one part after another

pub crc_after-append : (r : ℕ) (xs ys : List ℕ) → crc_after r (xs ++ ys) ≡ crc_after (crc_after r xs) ys
unfolding crc_after
crc_after-append r [] ys = refl
crc_after-append r (x ∷ xs) ys = crc_after-append (crc_bits 8 (bit_xor r x)) xs ys

-- ---- the register and each byte count for themselves

front_byte : (r b n m rest : ℕ) → m ≡ 8 + 8 * n → bit_xor (crc_bits (8 * n) (crc_bits 8 (bit_xor r b))) rest ≡ bit_xor (crc_bits m r) (bit_xor (crc_bits m b) rest)
front_byte r b n m rest size =
    let both : crc_bits (8 * n) (crc_bits 8 (bit_xor r b)) ≡ bit_xor (crc_bits m r) (crc_bits m b) = rw size (sym (crc_bits-add 8 (8 * n) (bit_xor r b)) ∙ crc_bits-xor (8 + 8 * n) r b) in
    ap (λ x. bit_xor x rest) both ∙ xor_assoc (crc_bits m r) (crc_bits m b) rest

front_alone : (b n m rest : ℕ) → m ≡ 8 + 8 * n → bit_xor (crc_bits (8 * n) (crc_bits 8 b)) rest ≡ bit_xor (crc_bits m b) rest
front_alone b n m rest size = rw size (ap (λ x. bit_xor x rest) (sym (crc_bits-add 8 (8 * n) b)))

pub crc_after_apart : (r : ℕ) (bytes : List ℕ) → crc_after r bytes ≡ bit_xor (crc_bits (8 * length bytes) r) (crc_after 0 bytes)
unfolding crc_after crc_bits
crc_after_apart r [] = sym (xor_zero_r r)
crc_after_apart r (b ∷ bs) =
    let n : ℕ = length bs in
    let m : ℕ = 8 * suc (length bs) in
    let size : m ≡ 8 + 8 * n = omega arith in
    let own : crc_after (crc_bits 8 (bit_xor r b)) bs ≡ bit_xor (crc_bits (8 * n) (crc_bits 8 (bit_xor r b))) (crc_after 0 bs) = crc_after_apart (crc_bits 8 (bit_xor r b)) bs in
    let alone : crc_after (crc_bits 8 b) bs ≡ bit_xor (crc_bits (8 * n) (crc_bits 8 b)) (crc_after 0 bs) = crc_after_apart (crc_bits 8 b) bs in
    own ∙ front_byte r b n m (crc_after 0 bs) size ∙ ap (λ x. bit_xor (crc_bits m r) x) (sym (alone ∙ front_alone b n m (crc_after 0 bs) size))

fold_front : (acc b : ℕ) (bs : List ℕ) (m : ℕ) → m ≡ 8 + 8 * length bs → bit_xor acc (crc_after 0 (b ∷ bs)) ≡ bit_xor (bit_xor acc (crc_bits m b)) (crc_after 0 bs)
unfolding crc_after
fold_front acc b bs m size = ap (λ x. bit_xor acc x) (crc_after_apart (crc_bits 8 b) bs ∙ front_alone b (length bs) m (crc_after 0 bs) size) ∙ sym (xor_assoc acc (crc_bits m b) (crc_after 0 bs))

pub first_front : (b : ℕ) (bs : List ℕ) (m : ℕ) → m ≡ 8 + 8 * length bs → crc_after 0 (b ∷ bs) ≡ bit_xor (crc_bits m b) (crc_after 0 bs)
unfolding crc_after
first_front b bs m size = crc_after_apart (crc_bits 8 b) bs ∙ front_alone b (length bs) m (crc_after 0 bs) size

no_bytes : (r : ℕ) → bit_xor r (crc_after 0 []) ≡ r
unfolding crc_after
no_bytes r = xor_zero_r r

pub four_bytes : (a b c d : ℕ) → crc_after 0 (a ∷ b ∷ c ∷ d ∷ []) ≡ bit_xor (bit_xor (bit_xor (crc_bits 32 a) (crc_bits 24 b)) (crc_bits 16 c)) (crc_bits 8 d)
four_bytes a b c d =
    let x1 : ℕ = crc_bits 32 a in
    let x2 : ℕ = bit_xor x1 (crc_bits 24 b) in
    let x3 : ℕ = bit_xor x2 (crc_bits 16 c) in
    let x4 : ℕ = bit_xor x3 (crc_bits 8 d) in
    first_front a (b ∷ c ∷ d ∷ []) 32 refl ∙ fold_front x1 b (c ∷ d ∷ []) 24 refl ∙ fold_front x2 c (d ∷ []) 16 refl ∙ fold_front x3 d [] 8 refl ∙ no_bytes x4

-- a list whose elements are named
four_of : (xs : List ℕ) (i : ℕ) → i + 4 ≤ length xs → drop i xs ≡ get_or xs i 0 ∷ get_or xs (i + 1) 0 ∷ get_or xs (i + 2) 0 ∷ get_or xs (i + 3) 0 ∷ drop (i + 4) xs
four_of xs i within =
    let s1 : suc i ≡ i + 1 = omega arith in
    let s2 : suc (i + 1) ≡ i + 2 = omega arith in
    let s3 : suc (i + 2) ≡ i + 3 = omega arith in
    let s4 : suc (i + 3) ≡ i + 4 = omega arith in
    let d0 : drop i xs ≡ get_or xs i 0 ∷ drop (i + 1) xs = drop-cons xs i 0 (omega arith) ∙ ap (λ k. get_or xs i 0 ∷ drop k xs) s1 in
    let d1 : drop (i + 1) xs ≡ get_or xs (i + 1) 0 ∷ drop (i + 2) xs = drop-cons xs (i + 1) 0 (omega arith) ∙ ap (λ k. get_or xs (i + 1) 0 ∷ drop k xs) s2 in
    let d2 : drop (i + 2) xs ≡ get_or xs (i + 2) 0 ∷ drop (i + 3) xs = drop-cons xs (i + 2) 0 (omega arith) ∙ ap (λ k. get_or xs (i + 2) 0 ∷ drop k xs) s3 in
    let d3 : drop (i + 3) xs ≡ get_or xs (i + 3) 0 ∷ drop (i + 4) xs = drop-cons xs (i + 3) 0 (omega arith) ∙ ap (λ k. get_or xs (i + 3) 0 ∷ drop k xs) s4 in
    d0 ∙ ap (λ (l : List ℕ). get_or xs i 0 ∷ l) (d1 ∙ ap (λ (l : List ℕ). get_or xs (i + 1) 0 ∷ l) (d2 ∙ ap (λ (l : List ℕ). get_or xs (i + 2) 0 ∷ l) d3))

pub four_named : (xs : List ℕ) → length xs ≡ 4 → xs ≡ get_or xs 0 0 ∷ get_or xs 1 0 ∷ get_or xs 2 0 ∷ get_or xs 3 0 ∷ []
four_named xs size = four_of xs 0 (omega arith) ∙ ap (λ (l : List ℕ). get_or xs 0 0 ∷ get_or xs 1 0 ∷ get_or xs 2 0 ∷ get_or xs 3 0 ∷ l) (drop_all 4 xs (omega arith))

pub eight_named : (xs : List ℕ) → length xs ≡ 8
    → xs ≡ get_or xs 0 0 ∷ get_or xs 1 0 ∷ get_or xs 2 0 ∷ get_or xs 3 0 ∷ get_or xs 4 0 ∷ get_or xs 5 0 ∷ get_or xs 6 0 ∷ get_or xs 7 0 ∷ []
eight_named xs size =
    four_of xs 0 (omega arith) ∙ ap (λ (l : List ℕ). get_or xs 0 0 ∷ get_or xs 1 0 ∷ get_or xs 2 0 ∷ get_or xs 3 0 ∷ l) (
    four_of xs 4 (omega arith) ∙ ap (λ (l : List ℕ). get_or xs 4 0 ∷ get_or xs 5 0 ∷ get_or xs 6 0 ∷ get_or xs 7 0 ∷ l) (drop_all 8 xs (omega arith)))

pub sixteen_named : (xs : List ℕ) → length xs ≡ 16
    → xs ≡ get_or xs 0 0 ∷ get_or xs 1 0 ∷ get_or xs 2 0 ∷ get_or xs 3 0 ∷ get_or xs 4 0 ∷ get_or xs 5 0 ∷ get_or xs 6 0 ∷ get_or xs 7 0
    ∷ get_or xs 8 0 ∷ get_or xs 9 0 ∷ get_or xs 10 0 ∷ get_or xs 11 0 ∷ get_or xs 12 0 ∷ get_or xs 13 0 ∷ get_or xs 14 0 ∷ get_or xs 15 0 ∷ []
sixteen_named xs size =
    four_of xs 0 (omega arith) ∙ ap (λ (l : List ℕ). get_or xs 0 0 ∷ get_or xs 1 0 ∷ get_or xs 2 0 ∷ get_or xs 3 0 ∷ l) (
    four_of xs 4 (omega arith) ∙ ap (λ (l : List ℕ). get_or xs 4 0 ∷ get_or xs 5 0 ∷ get_or xs 6 0 ∷ get_or xs 7 0 ∷ l) (
    four_of xs 8 (omega arith) ∙ ap (λ (l : List ℕ). get_or xs 8 0 ∷ get_or xs 9 0 ∷ get_or xs 10 0 ∷ get_or xs 11 0 ∷ l) (
    four_of xs 12 (omega arith) ∙ ap (λ (l : List ℕ). get_or xs 12 0 ∷ get_or xs 13 0 ∷ get_or xs 14 0 ∷ get_or xs 15 0 ∷ l) (drop_all 16 xs (omega arith)))))

-- what eight bytes leave
pub last_eight : (xs : List ℕ) → length xs ≡ 8
    → bit_xor (bit_xor (bit_xor (bit_xor (bit_xor (bit_xor (bit_xor (crc_bits 64 (get_or xs 0 0)) (crc_bits 56 (get_or xs 1 0))) (crc_bits 48 (get_or xs 2 0)))
    (crc_bits 40 (get_or xs 3 0))) (crc_bits 32 (get_or xs 4 0))) (crc_bits 24 (get_or xs 5 0))) (crc_bits 16 (get_or xs 6 0))) (crc_bits 8 (get_or xs 7 0))
    ≡ crc_after 0 xs
last_eight xs size =
    let a : ℕ = get_or xs 0 0 in
    let b : ℕ = get_or xs 1 0 in
    let c : ℕ = get_or xs 2 0 in
    let d : ℕ = get_or xs 3 0 in
    let e : ℕ = get_or xs 4 0 in
    let f : ℕ = get_or xs 5 0 in
    let g : ℕ = get_or xs 6 0 in
    let h : ℕ = get_or xs 7 0 in
    let x1 : ℕ = crc_bits 64 a in
    let x2 : ℕ = bit_xor x1 (crc_bits 56 b) in
    let x3 : ℕ = bit_xor x2 (crc_bits 48 c) in
    let x4 : ℕ = bit_xor x3 (crc_bits 40 d) in
    let x5 : ℕ = bit_xor x4 (crc_bits 32 e) in
    let x6 : ℕ = bit_xor x5 (crc_bits 24 f) in
    let x7 : ℕ = bit_xor x6 (crc_bits 16 g) in
    let x8 : ℕ = bit_xor x7 (crc_bits 8 h) in
    let folded : crc_after 0 (a ∷ b ∷ c ∷ d ∷ e ∷ f ∷ g ∷ h ∷ []) ≡ x8
    = first_front a (b ∷ c ∷ d ∷ e ∷ f ∷ g ∷ h ∷ []) 64 refl ∙ fold_front x1 b (c ∷ d ∷ e ∷ f ∷ g ∷ h ∷ []) 56 refl ∙ fold_front x2 c (d ∷ e ∷ f ∷ g ∷ h ∷ []) 48 refl
    ∙ fold_front x3 d (e ∷ f ∷ g ∷ h ∷ []) 40 refl ∙ fold_front x4 e (f ∷ g ∷ h ∷ []) 32 refl ∙ fold_front x5 f (g ∷ h ∷ []) 24 refl ∙ fold_front x6 g (h ∷ []) 16 refl
    ∙ fold_front x7 h [] 8 refl ∙ no_bytes x8 in
    sym (ap (λ (l : List ℕ). crc_after 0 l) (eight_named xs size) ∙ folded)

-- what four bytes leave after eight zero bytes
pub middle_four : (xs : List ℕ) → length xs ≡ 4
    → bit_xor (bit_xor (bit_xor (crc_bits 96 (get_or xs 0 0)) (crc_bits 88 (get_or xs 1 0))) (crc_bits 80 (get_or xs 2 0))) (crc_bits 72 (get_or xs 3 0)) ≡ crc_bits 64 (crc_after 0 xs)
middle_four xs size =
    let a : ℕ = crc_bits 32 (get_or xs 0 0) in
    let b : ℕ = crc_bits 24 (get_or xs 1 0) in
    let c : ℕ = crc_bits 16 (get_or xs 2 0) in
    let d : ℕ = crc_bits 8 (get_or xs 3 0) in
    let folded : crc_after 0 xs ≡ bit_xor (bit_xor (bit_xor a b) c) d = ap (λ (l : List ℕ). crc_after 0 l) (four_named xs size) ∙ four_bytes (get_or xs 0 0) (get_or xs 1 0) (get_or xs 2 0) (get_or xs 3 0) in
    let parts : crc_bits 64 (bit_xor (bit_xor (bit_xor a b) c) d) ≡ bit_xor (bit_xor (bit_xor (crc_bits 64 a) (crc_bits 64 b)) (crc_bits 64 c)) (crc_bits 64 d)
    = crc_bits-xor 64 (bit_xor (bit_xor a b) c) d ∙ ap (λ x. bit_xor x (crc_bits 64 d)) (crc_bits-xor 64 (bit_xor a b) c ∙ ap (λ x. bit_xor x (crc_bits 64 c)) (crc_bits-xor 64 a b)) in
    rw (folded, parts, ← crc_bits-add 32 64 (get_or xs 0 0), ← crc_bits-add 24 64 (get_or xs 1 0), ← crc_bits-add 16 64 (get_or xs 2 0), ← crc_bits-add 8 64 (get_or xs 3 0)) refl

-- a register that goes into the first four of sixteen bytes
pub crc_after_sixteen : (r : ℕ) (first middle last : List ℕ) → length first ≡ 4 → length middle ≡ 4 → length last ≡ 8 → ((i : ℕ) → get_or first i 0 < 256)
    → bit_xor (bit_xor (crc_bits 64 (crc_after 0 middle)) (crc_after 0 last)) (crc_bits 128 (bit_xor (from_le_bytes w32 first) r)) ≡ crc_after r (first ++ (middle ++ last))
crc_after_sixteen r first middle last f m l fits =
    let later : List ℕ = middle ++ last in
    let value : from_le_bytes w32 first ≡ value_of first = sum_value 3 first f in
    let word : ℕ = bit_xor r (value_of first) in
    let start : crc_after r first ≡ crc_bits 32 word = let size : 8 * length first ≡ 32 = omega arith in crc_after_word r first fits ∙ ap (λ n. crc_bits n word) size in
    let size : 8 * length later ≡ 96 = omega (arith, length-append middle last) in
    let moved : crc_bits (8 * length later) (crc_after r first) ≡ crc_bits 128 word = rw (size, start) (sym (crc_bits-add 32 96 word)) in
    let back : crc_after 0 later ≡ bit_xor (crc_bits 64 (crc_after 0 middle)) (crc_after 0 last)
    = crc_after-append 0 middle last ∙ crc_after_apart (crc_after 0 middle) last ∙ (let eight : 8 * length last ≡ 64 = omega arith in ap (λ n. bit_xor (crc_bits n (crc_after 0 middle)) (crc_after 0 last)) eight) in
    let whole : crc_after r (first ++ later) ≡ bit_xor (crc_bits 128 word) (bit_xor (crc_bits 64 (crc_after 0 middle)) (crc_after 0 last))
    = crc_after-append r first later ∙ crc_after_apart (crc_after r first) later ∙ ap (λ x. bit_xor x (crc_after 0 later)) moved ∙ ap (λ x. bit_xor (crc_bits 128 word) x) back in
    let turned : crc_bits 128 (bit_xor (from_le_bytes w32 first) r) ≡ crc_bits 128 word = ap (λ x. crc_bits 128 x) (ap (λ v. bit_xor v r) value ∙ xor_comm (value_of first) r) in
    rw turned (xor_comm (bit_xor (crc_bits 64 (crc_after 0 middle)) (crc_after 0 last)) (crc_bits 128 word) ∙ sym whole)

pub fits_named : (a b c d : ℕ) → a < 256 → b < 256 → c < 256 → d < 256 → (i : ℕ) → get_or (a ∷ b ∷ c ∷ d ∷ []) i 0 < 256
fits_named a b c d fa fb fc fd zero = fa
fits_named a b c d fa fb fc fd (suc zero) = fb
fits_named a b c d fa fb fc fd (suc (suc zero)) = fc
fits_named a b c d fa fb fc fd (suc (suc (suc zero))) = fd
fits_named a b c d fa fb fc fd (suc (suc (suc (suc i)))) = omega arith

concat-first_chunks : (n k : ℕ) (xs : List ℕ) → concat (first_chunks n k xs) ≡ take (k * n) xs
concat-first_chunks n zero xs = let none : zero * n ≡ 0 = omega arith in rw none refl
concat-first_chunks n (suc k) xs =
    let more : suc k * n ≡ n + k * n = omega arith in
    rw (more, concat-first_chunks n k (drop n xs)) (sym (take-add n (k * n) xs))

pub crc_after_parts : (r n k : ℕ) (bytes : List ℕ) → crc_after (crc_after r (concat (first_chunks n k bytes))) (drop (k * n) bytes) ≡ crc_after r bytes
crc_after_parts r n k bytes =
    ap (λ (l : List ℕ). crc_after (crc_after r l) (drop (k * n) bytes)) (concat-first_chunks n k bytes)
    ∙ sym (crc_after-append r (take (k * n) bytes) (drop (k * n) bytes)) ∙ ap (λ (l : List ℕ). crc_after r l) (take-append-drop (k * n) bytes)

-- ---- loops

pub crc_after_more : (r : ℕ) (bytes : List ℕ) (i : ℕ) (total : ℕ) → i < length bytes → crc_after r (drop i bytes) ≡ total → crc_after (crc_bits 8 (bit_xor r (get_or bytes i 0))) (drop (i + 1) bytes) ≡ total
unfolding crc_after
crc_after_more r bytes i total lt so_far =
    let front : drop i bytes ≡ get_or bytes i 0 ∷ drop (i + 1) bytes = rw add-one (drop-cons bytes i 0 lt) in
    ap (λ (l : List ℕ). crc_after r l) (sym front) ∙ so_far

pub crc_after_done : (r : ℕ) (bytes : List ℕ) (i total : ℕ) → length bytes ≤ i → crc_after r (drop i bytes) ≡ total → r ≡ total
unfolding crc_after
crc_after_done r bytes i total le so_far = ap (λ (l : List ℕ). crc_after r l) (sym (drop_all i bytes le)) ∙ so_far

pub crc_chunks_more : (r : ℕ) (chunks : List (List ℕ)) (i : ℕ) (total : ℕ) → i < length chunks → crc_after r (concat (drop i chunks)) ≡ total
    → crc_after (crc_after r (get_or chunks i [])) (concat (drop (i + 1) chunks)) ≡ total
crc_chunks_more r chunks i total lt so_far =
    let front : drop i chunks ≡ get_or chunks i [] ∷ drop (i + 1) chunks = rw add-one (drop-cons chunks i [] lt) in
    sym (crc_after-append r (get_or chunks i []) (concat (drop (i + 1) chunks))) ∙ ap (λ (l : List (List ℕ)). crc_after r (concat l)) (sym front) ∙ so_far

pub crc_chunks_done : (r : ℕ) (chunks : List (List ℕ)) (i total : ℕ) → length chunks ≤ i → crc_after r (concat (drop i chunks)) ≡ total → r ≡ total
unfolding crc_after
crc_chunks_done r chunks i total le so_far = ap (λ (l : List (List ℕ)). crc_after r (concat l)) (sym (drop_all i chunks le)) ∙ so_far

-- the register with the byte in it: its upper bits only go down
pub register_step : (r b : ℕ) → bit_xor (r / 256) (crc_bits 8 (bit_xor (bit_and r 255) b)) ≡ crc_bits 8 (bit_xor r b)
register_step r b =
    let low : bit_and r 255 ≡ r % 256 = and_mask r 8 in
    let parts : bit_xor r b ≡ bit_xor (bit_xor (r % 256) b) (r / 256 * 2 ^ 8) = ap (λ x. bit_xor x b) (split_byte r) ∙ xor_swap (r % 256) (r / 256 * 2 ^ 8) b in
    rw low (xor_comm (r / 256) (crc_bits 8 (bit_xor (r % 256) b)) ∙ sym (ap (λ x. crc_bits 8 x) parts ∙ crc_bits_below 8 (bit_xor (r % 256) b) (r / 256)))

-- ---- four bytes of a word

fold_more : (acc j m x p q : ℕ) → m ≡ j + 1 → x / p / 256 ≡ x / q
    → bit_xor acc (crc_bits (8 * m) (x / p)) ≡ bit_xor (bit_xor acc (crc_bits (8 * m) (x / p % 256))) (crc_bits (8 * j) (x / q))
fold_more acc j m x p q next parts = rw next (fold_byte acc j (x / p) ∙ ap (λ y. bit_xor (bit_xor acc (crc_bits (8 * (j + 1)) (x / p % 256))) (crc_bits (8 * j) y)) parts)

pub fold_four : (k x : ℕ) → x < 2 ^ 32
    → bit_xor (bit_xor (bit_xor (crc_bits (8 * (k + 4)) (byte_at 0 x)) (crc_bits (8 * (k + 3)) (byte_at 1 x))) (crc_bits (8 * (k + 2)) (byte_at 2 x))) (crc_bits (8 * (k + 1)) (byte_at 3 x))
    ≡ crc_bits (8 * (k + 4)) x
fold_four k x lt =
    let a0 : ℕ = crc_bits (8 * (k + 4)) (byte_at 0 x) in
    let a1 : ℕ = bit_xor a0 (crc_bits (8 * (k + 3)) (byte_at 1 x)) in
    let a2 : ℕ = bit_xor a1 (crc_bits (8 * (k + 2)) (byte_at 2 x)) in
    let a3 : ℕ = bit_xor a2 (crc_bits (8 * (k + 1)) (byte_at 3 x)) in
    let first : crc_bits (8 * (k + 4)) x ≡ bit_xor a0 (crc_bits (8 * (k + 3)) (x / 256 ^ 1))
    = let size : k + 4 ≡ k + 3 + 1 = omega arith in rw size (fold_first (k + 3) x) in
    let s1 : bit_xor a0 (crc_bits (8 * (k + 3)) (x / 256 ^ 1)) ≡ bit_xor a1 (crc_bits (8 * (k + 2)) (x / 256 ^ 2)) = fold_more a0 (k + 2) (k + 3) x (256 ^ 1) (256 ^ 2) (omega arith) (omega arith) in
    let s2 : bit_xor a1 (crc_bits (8 * (k + 2)) (x / 256 ^ 2)) ≡ bit_xor a2 (crc_bits (8 * (k + 1)) (x / 256 ^ 3)) = fold_more a1 (k + 1) (k + 2) x (256 ^ 2) (256 ^ 3) (omega arith) (omega arith) in
    let s3 : bit_xor a2 (crc_bits (8 * (k + 1)) (x / 256 ^ 3)) ≡ bit_xor a3 (crc_bits (8 * k) 0) = fold_more a2 k (k + 1) x (256 ^ 3) (256 ^ 4) refl (omega arith) ∙ ap (λ y. bit_xor a3 (crc_bits (8 * k) y)) (omega arith) in
    sym (first ∙ s1 ∙ s2 ∙ s3 ∙ ap (λ y. bit_xor a3 y) (crc_bits-zero (8 * k)) ∙ xor_zero_r a3)

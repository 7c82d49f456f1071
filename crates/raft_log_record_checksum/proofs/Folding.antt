-- A byte that is folded forward leaves what it would have left in its place.
use Rattle.std.proofs.Common.{◌≡◌, ℕ, zero, suc, ◌+◌, ◌-◌, ◌*◌, ◌/◌, ◌%◌, ◌^◌, ◌<◌, ◌≤◌, List, [], ◌∷◌, ◌++◌, length, get_or, take, drop, set, replicate, refl, sym, ap, ◌∙◌, inl, inr, arith, length-append, length-drop, drop-cons}
use Rattle.std.specs.Prelude.{bit_xor}
use Rattle.std.specs.List.{concat, copy_within}
use Rattle.std.specs.Int.{byte_at}
use Rattle.std.proofs.Math.Nat.{pow-suc}
use Rattle.std.proofs.Math.Seq.{paste}
use Rattle.std.proofs.lemmas.List.{drop-append-le, drop-take, drop-drop, drop-replicate, take-replicate, get_or-take, take_more, take_more_set, length-take-le, length-replicate}
use Rattle.std.proofs.lemmas.List.Folds.{concat-append}
use Rattle.std.proofs.lemmas.List.Edits.{take-paste}
use Rattle.std.proofs.lemmas.Bool.{cases_lt}
use Rattle.std.proofs.lemmas.Nat.{xor_comm, xor_lt}
use lib.Bits.{xor_assoc, xor_zero_r, xor_shifted}
use Rattle.raft_log_record_checksum.specs.Checksum.{crc_bits, crc_after}
use Rattle.raft_log_record_checksum.specs.Folding.{ending, owed}
use Rattle.raft_log_record_checksum.proofs.Crc.{xor_swap, xor_twice, crc_bits-xor, crc_bits-add, crc_bits-zero, crc_bits_shift, crc_after-append, crc_after_apart, first_front, four_bytes, fold_four}

-- ---- the order of terms

inner_swap : (b c d : ℕ) → bit_xor b (bit_xor c d) ≡ bit_xor c (bit_xor b d)
inner_swap b c d = sym (xor_assoc b c d) ∙ ap (λ x. bit_xor x d) (xor_comm b c) ∙ xor_assoc c b d

pub interchange : (a b c d : ℕ) → bit_xor (bit_xor a b) (bit_xor c d) ≡ bit_xor (bit_xor a c) (bit_xor b d)
interchange a b c d = xor_assoc a b (bit_xor c d) ∙ ap (λ x. bit_xor a x) (inner_swap b c d) ∙ sym (xor_assoc a c (bit_xor b d))

pub join : {a b c d : ℕ} → a ≡ b → c ≡ d → bit_xor a c ≡ bit_xor b d
join {a} {b} {c} {d} p q = ap (λ x. bit_xor x c) p ∙ ap (λ x. bit_xor b x) q

-- what was xored in front goes to the other side
other_side : (a p x : ℕ) → a ≡ bit_xor p x → x ≡ bit_xor p a
other_side a p x e = sym (ap (λ y. bit_xor p y) (e ∙ xor_comm p x) ∙ xor_comm p (bit_xor x p) ∙ xor_twice x p)

both_gone : (x q y : ℕ) → bit_xor x (bit_xor q (bit_xor y x)) ≡ bit_xor q y
both_gone x q y = ap (λ z. bit_xor x z) (sym (xor_assoc q y x)) ∙ xor_comm x (bit_xor (bit_xor q y) x) ∙ xor_twice (bit_xor q y) x

two_rows : (p q v r s w : ℕ) → bit_xor (bit_xor p (bit_xor q v)) (bit_xor r (bit_xor s w)) ≡ bit_xor (bit_xor p r) (bit_xor (bit_xor q s) (bit_xor v w))
two_rows p q v r s w = interchange p (bit_xor q v) r (bit_xor s w) ∙ ap (λ x. bit_xor (bit_xor p r) x) (interchange q v s w)

-- ---- a byte counts as in four later places

-- 2,400 bits after a single bit, the register is that after 1,240, 936, 712 and none together
one_bit : crc_bits 2400 1 ≡ bit_xor (bit_xor (crc_bits 1240 1) (crc_bits 936 1)) (bit_xor (crc_bits 712 1) 1)
unfolding crc_bits
one_bit = refl

-- what a number leaves in the four places
abbrev four_places : ℕ → ℕ → ℕ
four_places n x = bit_xor (bit_xor (crc_bits (1240 + n) x) (crc_bits (936 + n) x)) (bit_xor (crc_bits (712 + n) x) (crc_bits n x))

places-xor : (n a b : ℕ) → four_places n (bit_xor a b) ≡ bit_xor (four_places n a) (four_places n b)
places-xor n a b =
    join (join (crc_bits-xor (1240 + n) a b) (crc_bits-xor (936 + n) a b) ∙ interchange (crc_bits (1240 + n) a) (crc_bits (1240 + n) b) (crc_bits (936 + n) a) (crc_bits (936 + n) b))
    (join (crc_bits-xor (712 + n) a b) (crc_bits-xor n a b) ∙ interchange (crc_bits (712 + n) a) (crc_bits (712 + n) b) (crc_bits n a) (crc_bits n b))
    ∙ interchange (bit_xor (crc_bits (1240 + n) a) (crc_bits (936 + n) a)) (bit_xor (crc_bits (1240 + n) b) (crc_bits (936 + n) b))
    (bit_xor (crc_bits (712 + n) a) (crc_bits n a)) (bit_xor (crc_bits (712 + n) b) (crc_bits n b))

-- an even number is half, a bit later
even_later : (m k y : ℕ) → m ≡ 1 + k → crc_bits m (y * 2 ^ 1) ≡ crc_bits k y
even_later m k y e = ap (λ i. crc_bits i (y * 2 ^ 1)) e ∙ crc_bits-add 1 k (y * 2 ^ 1) ∙ ap (λ r. crc_bits k r) (crc_bits_shift 1 y)

places_later : (n y : ℕ) → four_places (suc n) (y * 2 ^ 1) ≡ four_places n y
places_later n y =
    join (join (even_later (1240 + suc n) (1240 + n) y (omega arith)) (even_later (936 + suc n) (936 + n) y (omega arith)))
    (join (even_later (712 + suc n) (712 + n) y (omega arith)) (even_later (suc n) n y (omega arith)))

one_folds : (n : ℕ) → crc_bits (2400 + n) 1 ≡ four_places n 1
one_folds n =
    crc_bits-add 2400 n 1 ∙ ap (λ r. crc_bits n r) one_bit
    ∙ crc_bits-xor n (bit_xor (crc_bits 1240 1) (crc_bits 936 1)) (bit_xor (crc_bits 712 1) 1)
    ∙ join (crc_bits-xor n (crc_bits 1240 1) (crc_bits 936 1) ∙ join (sym (crc_bits-add 1240 n 1)) (sym (crc_bits-add 936 n 1)))
    (crc_bits-xor n (crc_bits 712 1) 1 ∙ join (sym (crc_bits-add 712 n 1)) refl)

zero_folds : (n : ℕ) → crc_bits (2400 + n) 0 ≡ four_places n 0
zero_folds n = crc_bits-zero (2400 + n) ∙ sym (join (join (crc_bits-zero (1240 + n)) (crc_bits-zero (936 + n))) (join (crc_bits-zero (712 + n)) (crc_bits-zero n)))

bit_folds : (n x : ℕ) → crc_bits (2400 + n) (x % 2) ≡ four_places n (x % 2)
bit_folds n x = elim (cases_lt (x % 2) 1) [
  | inl lt ↦ let e : x % 2 ≡ 0 = omega arith in rw e (zero_folds n)
  | inr le ↦ let e : x % 2 ≡ 1 = omega arith in rw e (one_folds n)
]

lowest_apart : (x : ℕ) → x ≡ bit_xor (x % 2) (x / 2 * 2 ^ 1)
lowest_apart x =
    let joined : bit_xor (x / 2 * 2 ^ 1) (x % 2) ≡ x / 2 * 2 ^ 1 + x % 2 = xor_shifted (x / 2) 1 (x % 2) (omega arith) in
    let whole : x / 2 * 2 ^ 1 + x % 2 ≡ x = omega arith in
    sym (xor_comm (x % 2) (x / 2 * 2 ^ 1) ∙ joined ∙ whole)

half_below : (n x : ℕ) → x < 2 ^ suc n → x / 2 < 2 ^ n
half_below n x lt =
    let twice : 2 ^ suc n ≡ 2 * 2 ^ n = pow-suc 2 n ∙ omega arith in
    omega (arith, twice, lt)

folds_below : (n i x : ℕ) → x < 2 ^ n → crc_bits (2400 + (n + i)) x ≡ four_places (n + i) x
folds_below zero i x lt = let e : x ≡ 0 = omega arith in rw e (zero_folds (zero + i))
folds_below (suc n) i x lt =
    let j : ℕ = n + i in
    let size : suc n + i ≡ suc j = omega arith in
    let low : ℕ = x % 2 in
    let high : ℕ = x / 2 in
    let below : high < 2 ^ n = half_below n x lt in
    let left : crc_bits (2400 + suc j) x ≡ bit_xor (crc_bits (2400 + suc j) low) (crc_bits (2400 + j) high)
    = ap (λ y. crc_bits (2400 + suc j) y) (lowest_apart x) ∙ crc_bits-xor (2400 + suc j) low (high * 2 ^ 1) ∙ join refl (even_later (2400 + suc j) (2400 + j) high (omega arith)) in
    let right : four_places (suc j) x ≡ bit_xor (four_places (suc j) low) (four_places j high)
    = ap (λ y. four_places (suc j) y) (lowest_apart x) ∙ places-xor (suc j) low (high * 2 ^ 1) ∙ join refl (places_later j high) in
    rw size (left ∙ join (bit_folds (suc j) x) (folds_below n i high below) ∙ sym right)

-- a byte, as it is taken out
byte_folds : (v : ℕ) → v < 256 → crc_bits 2408 v ≡ bit_xor (bit_xor (crc_bits 1248 v) (crc_bits 944 v)) (bit_xor (crc_bits 720 v) (crc_bits 8 v))
byte_folds v lt = folds_below 8 0 v lt

-- ---- the last bytes, a byte later

-- without its first byte and with one more at the end
moved : (k first v total : ℕ) (rest : List ℕ) → total ≡ 8 + 8 * (length rest + 1) + k
    → crc_bits k (crc_after 0 (rest ++ v ∷ [])) ≡ bit_xor (crc_bits total first) (bit_xor (crc_bits 8 (crc_bits k (crc_after 0 (first ∷ rest)))) (crc_bits (8 + k) v))
unfolding crc_after
moved k first v total rest size =
    let a : ℕ = crc_after 0 (first ∷ rest) in
    let m : ℕ = 8 + 8 * (length rest + 1) in
    let bits : m ≡ 8 + 8 * length (rest ++ v ∷ []) = omega (arith, length-append rest (v ∷ [])) in
    let whole : crc_after 0 (first ∷ (rest ++ v ∷ [])) ≡ bit_xor (crc_bits 8 a) (crc_bits 8 v) = crc_after-append 0 (first ∷ rest) (v ∷ []) ∙ crc_bits-xor 8 a v in
    let parts : bit_xor (crc_bits 8 a) (crc_bits 8 v) ≡ bit_xor (crc_bits m first) (crc_after 0 (rest ++ v ∷ [])) = sym whole ∙ first_front first (rest ++ v ∷ []) m bits in
    let alone : crc_after 0 (rest ++ v ∷ []) ≡ bit_xor (crc_bits m first) (bit_xor (crc_bits 8 a) (crc_bits 8 v))
    = other_side (bit_xor (crc_bits 8 a) (crc_bits 8 v)) (crc_bits m first) (crc_after 0 (rest ++ v ∷ [])) parts in
    let turned : crc_bits k (crc_bits 8 a) ≡ crc_bits 8 (crc_bits k a) = sym (crc_bits-add 8 k a) ∙ ap (λ n. crc_bits n a) (let e : 8 + k ≡ k + 8 = omega arith in e) ∙ crc_bits-add k 8 a in
    ap (λ x. crc_bits k x) alone ∙ crc_bits-xor k (crc_bits m first) (bit_xor (crc_bits 8 a) (crc_bits 8 v))
    ∙ join (sym (crc_bits-add m k first) ∙ ap (λ n. crc_bits n first) (sym size))
    (crc_bits-xor k (crc_bits 8 a) (crc_bits 8 v) ∙ join turned (sym (crc_bits-add 8 k v)))

ending_first : (n : ℕ) (h : List ℕ) → n < length h → ending (suc n) h ≡ get_or h (length h - suc n) 0 ∷ ending n h
ending_first n h lt =
    let next : suc (length h - suc n) ≡ length h - n = omega arith in
    drop-cons h (length h - suc n) 0 (omega arith) ∙ ap (λ i. get_or h (length h - suc n) 0 ∷ drop i h) next

ending_push : (n v : ℕ) (h : List ℕ) → n ≤ length h → ending (suc n) (h ++ v ∷ []) ≡ ending n h ++ v ∷ []
ending_push n v h le =
    let start : length (h ++ v ∷ []) - suc n ≡ length h - n = omega (arith, length-append h (v ∷ [])) in
    ap (λ i. drop i (h ++ v ∷ [])) start ∙ drop-append-le (length h - n) h (v ∷ []) (omega arith)

placed : (k n v : ℕ) (h : List ℕ) → n < length h → 2408 ≡ 8 + 8 * (n + 1) + k
    → crc_bits k (crc_after 0 (ending (suc n) (h ++ v ∷ []))) ≡ bit_xor (crc_bits 2408 (get_or h (length h - suc n) 0)) (bit_xor (crc_bits 8 (crc_bits k (crc_after 0 (ending (suc n) h)))) (crc_bits (8 + k) v))
placed k n v h lt size =
    let long : length (ending n h) ≡ n = omega (arith, length-drop (length h - n) h) in
    let first : ℕ = get_or h (length h - suc n) 0 in
    ap (λ (l : List ℕ). crc_bits k (crc_after 0 l)) (ending_push n v h (omega arith)) ∙ moved k first v 2408 (ending n h) (omega arith)
    ∙ ap (λ (l : List ℕ). bit_xor (crc_bits 2408 first) (bit_xor (crc_bits 8 (crc_bits k (crc_after 0 l))) (crc_bits (8 + k) v))) (sym (ending_first n h lt))

-- what a byte takes up
abbrev taken : List ℕ → ℕ
taken h = bit_xor (bit_xor (get_or h (length h - 145) 0) (get_or h (length h - 183) 0)) (bit_xor (get_or h (length h - 211) 0) (get_or h (length h - 300) 0))

owed_push : (h : List ℕ) (v : ℕ) → 300 ≤ length h → v < 256 → owed (h ++ v ∷ []) ≡ bit_xor (crc_bits 2408 (taken h)) (bit_xor (crc_bits 8 (owed h)) (crc_bits 2408 v))
unfolding owed crc_bits
owed_push h v long fits =
    let a : ℕ = get_or h (length h - 145) 0 in
    let b : ℕ = get_or h (length h - 183) 0 in
    let c : ℕ = get_or h (length h - 211) 0 in
    let d : ℕ = get_or h (length h - 300) 0 in
    let p : ℕ = crc_bits 1240 (crc_after 0 (ending 145 h)) in
    let q : ℕ = crc_bits 936 (crc_after 0 (ending 183 h)) in
    let r : ℕ = crc_bits 712 (crc_after 0 (ending 211 h)) in
    let s : ℕ = crc_after 0 (ending 300 h) in
    let t : ℕ → ℕ = λ x. crc_bits 2408 x in
    let e : ℕ → ℕ = λ x. crc_bits 8 x in
    join (join (placed 1240 144 v h (omega arith) refl) (placed 936 182 v h (omega arith) refl) ∙ two_rows (t a) (e p) (crc_bits 1248 v) (t b) (e q) (crc_bits 944 v))
    (join (placed 712 210 v h (omega arith) refl) (placed 0 299 v h (omega arith) refl) ∙ two_rows (t c) (e r) (crc_bits 720 v) (t d) (e s) (crc_bits 8 v))
    ∙ two_rows (bit_xor (t a) (t b)) (bit_xor (e p) (e q)) (bit_xor (crc_bits 1248 v) (crc_bits 944 v)) (bit_xor (t c) (t d)) (bit_xor (e r) (e s)) (bit_xor (crc_bits 720 v) (crc_bits 8 v))
    ∙ join (sym (crc_bits-xor 2408 (bit_xor a b) (bit_xor c d) ∙ join (crc_bits-xor 2408 a b) (crc_bits-xor 2408 c d)))
    (join (sym (crc_bits-xor 8 (bit_xor p q) (bit_xor r s) ∙ join (crc_bits-xor 8 p q) (crc_bits-xor 8 r s))) (sym (byte_folds v fits)))

-- one more byte is folded
pub byte_folded : (h : List ℕ) (r b v : ℕ) → 300 ≤ length h → v < 256 → v ≡ bit_xor b (taken h) → owed h ≡ crc_bits 2400 r → owed (h ++ v ∷ []) ≡ crc_bits 2400 (crc_bits 8 (bit_xor r b))
byte_folded h r b v long fits is stands =
    let t : ℕ = crc_bits 2408 (taken h) in
    let own : crc_bits 2408 v ≡ bit_xor (crc_bits 2408 b) t = ap (λ x. crc_bits 2408 x) is ∙ crc_bits-xor 2408 b (taken h) in
    let before : crc_bits 8 (owed h) ≡ crc_bits 2408 r = ap (λ x. crc_bits 8 x) stands ∙ sym (crc_bits-add 2400 8 r) in
    owed_push h v long fits ∙ ap (λ x. bit_xor t (bit_xor (crc_bits 8 (owed h)) x)) own ∙ both_gone t (crc_bits 8 (owed h)) (crc_bits 2408 b)
    ∙ join before refl ∙ sym (crc_bits-xor 2408 r b) ∙ crc_bits-add 8 2400 (bit_xor r b)

-- ---- the window

taken_named : (w : List ℕ) (i : ℕ) → 300 + i ≤ length w → taken (take (300 + i) w) ≡ bit_xor (bit_xor (get_or w (155 + i) 0) (get_or w (117 + i) 0)) (bit_xor (get_or w (89 + i) 0) (get_or w i 0))
taken_named w i within =
    let n : ℕ = 300 + i in
    let h : List ℕ = take n w in
    let size : length h ≡ n = length-take-le n w within in
    let at : (k j : ℕ) → length h - k ≡ j → j < n → get_or h (length h - k) 0 ≡ get_or w j 0 = λ k j e lt. ap (λ m. get_or h m 0) e ∙ get_or-take n w j 0 lt in
    join (join (at 145 (155 + i) (omega arith) (omega arith)) (at 183 (117 + i) (omega arith) (omega arith))) (join (at 211 (89 + i) (omega arith) (omega arith)) (at 300 i (omega arith) (omega arith)))

chain : (b p q r s : ℕ) → bit_xor (bit_xor (bit_xor (bit_xor b p) q) r) s ≡ bit_xor b (bit_xor (bit_xor p q) (bit_xor r s))
chain b p q r s = xor_assoc (bit_xor (bit_xor b p) q) r s ∙ ap (λ x. bit_xor x (bit_xor r s)) (xor_assoc b p q) ∙ xor_assoc b (bit_xor p q) (bit_xor r s)

after_more : (r i : ℕ) (bytes : List ℕ) → i < length bytes → crc_after r (take (i + 1) bytes) ≡ crc_bits 8 (bit_xor (crc_after r (take i bytes)) (get_or bytes i 0))
unfolding crc_after
after_more r i bytes lt = ap (λ (l : List ℕ). crc_after r l) (take_more bytes i 0 lt) ∙ crc_after-append r (take i bytes) (get_or bytes i 0 ∷ [])

pub part_more : (w part : List ℕ) (i r v : ℕ) → 300 + i < length w → i < length part → v < 256
    → v ≡ bit_xor (bit_xor (bit_xor (bit_xor (get_or part i 0) (get_or w (155 + i) 0)) (get_or w (117 + i) 0)) (get_or w (89 + i) 0)) (get_or w i 0)
    → owed (take (300 + i) w) ≡ crc_bits 2400 (crc_after r (take i part)) → owed (take (300 + (i + 1)) (set w (300 + i) v)) ≡ crc_bits 2400 (crc_after r (take (i + 1) part))
part_more w part i r v within lt fits is stands =
    let b : ℕ = get_or part i 0 in
    let h : List ℕ = take (300 + i) w in
    let size : length h ≡ 300 + i = length-take-le (300 + i) w (omega arith) in
    let next : 300 + (i + 1) ≡ 300 + i + 1 = omega arith in
    let own : v ≡ bit_xor b (taken h)
    = is ∙ chain b (get_or w (155 + i) 0) (get_or w (117 + i) 0) (get_or w (89 + i) 0) (get_or w i 0) ∙ ap (λ x. bit_xor b x) (sym (taken_named w i (omega arith))) in
    ap (λ n. owed (take n (set w (300 + i) v))) next ∙ ap (λ (l : List ℕ). owed l) (take_more_set w (300 + i) v within)
    ∙ byte_folded h (crc_after r (take i part)) b v (omega arith) fits own stands ∙ ap (λ x. crc_bits 2400 x) (sym (after_more r i part lt))

pub bytes_set : (w : List ℕ) (i v : ℕ) → v < 256 → ((k : ℕ) → get_or w k 0 < 256) → (k : ℕ) → get_or (set w i v) k 0 < 256
bytes_set [] i v lt fits k = fits k
bytes_set (x ∷ xs) zero v lt fits zero = lt
bytes_set (x ∷ xs) zero v lt fits (suc k) = fits (suc k)
bytes_set (x ∷ xs) (suc i) v lt fits zero = fits zero
bytes_set (x ∷ xs) (suc i) v lt fits (suc k) = bytes_set xs i v lt (λ j. fits (suc j)) k

pub five_below : (a b c d e : ℕ) → a < 256 → b < 256 → c < 256 → d < 256 → e < 256 → bit_xor (bit_xor (bit_xor (bit_xor a b) c) d) e < 256
five_below a b c d e la lb lc ld le =
    xor_lt 8 (bit_xor (bit_xor (bit_xor a b) c) d) e (xor_lt 8 (bit_xor (bit_xor a b) c) d (xor_lt 8 (bit_xor a b) c (xor_lt 8 a b la lb) lc) ld) le

-- what is owed is owed by the last bytes alone
same_ending : (w : List ℕ) (n m d : ℕ) → m + d ≡ 300 → n + 300 ≤ length w → ending d (take 300 (drop n w)) ≡ ending d (take (300 + n) w)
same_ending w n m d size within =
    let short : length (take 300 (drop n w)) - d ≡ m = omega (arith, length-take-le 300 (drop n w) (omega (arith, length-drop n w))) in
    let long : length (take (300 + n) w) - d ≡ n + m = omega (arith, length-take-le (300 + n) w (omega arith)) in
    let left : 300 ≡ m + d = omega arith in
    let right : 300 + n ≡ n + m + d = omega arith in
    ap (λ i. drop i (take 300 (drop n w))) short ∙ ap (λ i. drop m (take i (drop n w))) left ∙ drop-take m d (drop n w) ∙ ap (λ (l : List ℕ). take d l) (drop-drop m n w)
    ∙ sym (ap (λ i. drop i (take (300 + n) w)) long ∙ ap (λ i. drop (n + m) (take i w)) right ∙ drop-take (n + m) d w)

pub window_moved : (w : List ℕ) (n : ℕ) → n + 300 ≤ length w → owed (take 300 (copy_within w n (n + 300) 0)) ≡ owed (take (300 + n) w)
unfolding owed
window_moved w n within =
    let count : n + 300 - n ≡ 300 = omega arith in
    let front : take 300 (copy_within w n (n + 300) 0) ≡ take 300 (drop n w)
    = ap (λ k. take 300 (paste w 0 (drop n w) k)) count ∙ take-paste w 0 (drop n w) 300 (omega arith) (omega (arith, length-drop n w)) in
    let at : (k m d : ℕ) → m + d ≡ 300 → crc_bits k (crc_after 0 (ending d (take 300 (drop n w)))) ≡ crc_bits k (crc_after 0 (ending d (take (300 + n) w)))
    = λ k m d e. ap (λ (l : List ℕ). crc_bits k (crc_after 0 l)) (same_ending w n m d e within) in
    ap (λ (l : List ℕ). owed l) front
    ∙ join (join (at 1240 155 145 refl) (at 936 117 183 refl)) (join (at 712 89 211 refl) (ap (λ (l : List ℕ). crc_after 0 l) (same_ending w n 0 300 refl within)))

-- ---- the start

zeros_after : (n r : ℕ) → crc_after r (replicate n 0) ≡ crc_bits (8 * n) r
unfolding crc_after crc_bits
zeros_after zero r = refl
zeros_after (suc n) r =
    let size : 8 * suc n ≡ 8 + 8 * n = omega arith in
    zeros_after n (crc_bits 8 (bit_xor r 0)) ∙ ap (λ x. crc_bits (8 * n) (crc_bits 8 x)) (xor_zero_r r) ∙ sym (ap (λ k. crc_bits k r) size ∙ crc_bits-add 8 (8 * n) r)

no_zeros : (k n : ℕ) → crc_bits k (crc_after 0 (replicate n 0)) ≡ 0
no_zeros k n = ap (λ x. crc_bits k x) (zeros_after n 0 ∙ crc_bits-zero (8 * n)) ∙ crc_bits-zero k

word_named : (x : ℕ) → x < 2 ^ 32 → crc_after 0 (byte_at 0 x ∷ byte_at 1 x ∷ byte_at 2 x ∷ byte_at 3 x ∷ []) ≡ crc_bits 32 x
word_named x lt = four_bytes (byte_at 0 x) (byte_at 1 x) (byte_at 2 x) (byte_at 3 x) ∙ fold_four 0 x lt

pub started : (x : ℕ) → x < 2 ^ 32 → owed (take 300 (set (set (set (set (replicate 2348 0) 0 (byte_at 0 x)) 1 (byte_at 1 x)) 2 (byte_at 2 x)) 3 (byte_at 3 x))) ≡ crc_bits 2400 x
unfolding owed
started x lt =
    let word : List ℕ = byte_at 0 x ∷ byte_at 1 x ∷ byte_at 2 x ∷ byte_at 3 x ∷ [] in
    let front : take 300 (set (set (set (set (replicate 2348 0) 0 (byte_at 0 x)) 1 (byte_at 1 x)) 2 (byte_at 2 x)) 3 (byte_at 3 x)) ≡ word ++ replicate 296 0
    = ap (λ (l : List ℕ). word ++ l) (take-replicate {X = ℕ} 296 2344 0 (omega arith)) in
    let size : length (word ++ replicate 296 0) ≡ 300 = omega (arith, length-append word (replicate 296 0), length-replicate {A = ℕ} 296 0) in
    let none : (k n d : ℕ) → n ≡ 296 - d → 300 - (296 - d) ≡ 4 + d → crc_bits k (crc_after 0 (ending n (word ++ replicate 296 0))) ≡ 0
    = λ k n d e f. ap (λ i. crc_bits k (crc_after 0 (drop i (word ++ replicate 296 0)))) (let g : length (word ++ replicate 296 0) - n ≡ 4 + d = omega arith in g)
    ∙ ap (λ (l : List ℕ). crc_bits k (crc_after 0 l)) (sym (drop-drop d 4 (word ++ replicate 296 0)) ∙ drop-replicate {X = ℕ} d 296 0) ∙ no_zeros k (296 - d) in
    let last : crc_after 0 (ending 300 (word ++ replicate 296 0)) ≡ crc_bits 2400 x
    = ap (λ i. crc_after 0 (drop i (word ++ replicate 296 0))) (let g : length (word ++ replicate 296 0) - 300 ≡ 0 = omega arith in g)
    ∙ crc_after-append 0 word (replicate 296 0) ∙ ap (λ r. crc_after r (replicate 296 0)) (word_named x lt) ∙ zeros_after 296 (crc_bits 32 x) ∙ sym (crc_bits-add 32 2368 x) in
    ap (λ (l : List ℕ). owed l) front
    ∙ join (join (none 1240 145 151 refl refl) (none 936 183 113 refl refl)) (join (none 712 211 85 refl refl) last) ∙ xor_comm 0 (bit_xor 0 (crc_bits 2400 x)) ∙ xor_zero_r (bit_xor 0 (crc_bits 2400 x)) ∙ xor_comm 0 (crc_bits 2400 x) ∙ xor_zero_r (crc_bits 2400 x)

-- ---- the parts

pub parts_more : (r : ℕ) (parts : List (List ℕ)) (i : ℕ) → i < length parts → crc_after (crc_after r (concat (take i parts))) (get_or parts i []) ≡ crc_after r (concat (take (i + 1) parts))
unfolding crc_after
parts_more r parts i lt =
    let last : List ℕ = get_or parts i [] in
    let before : List (List ℕ) = take i parts in
    sym (ap (λ (l : List (List ℕ)). crc_after r (concat l)) (take_more parts i [] lt) ∙ ap (λ (l : List ℕ). crc_after r l) (concat-append before (last ∷ []))
    ∙ crc_after-append r (concat before) (concat (last ∷ [])) ∙ crc_after-append (crc_after r (concat before)) last [])

-- ---- the last bytes take up what is owed

apart_xor : (a b : ℕ) (bytes : List ℕ) → crc_after (bit_xor a b) bytes ≡ bit_xor (crc_after a bytes) (crc_bits (8 * length bytes) b)
apart_xor a b bytes =
    let k : ℕ = 8 * length bytes in
    crc_after_apart (bit_xor a b) bytes ∙ ap (λ x. bit_xor x (crc_after 0 bytes)) (crc_bits-xor k a b) ∙ xor_swap (crc_bits k a) (crc_bits k b) (crc_after 0 bytes)
    ∙ ap (λ x. bit_xor x (crc_bits k b)) (sym (crc_after_apart a bytes))

xor_set : (r i b : ℕ) (bytes : List ℕ) → i < length bytes → crc_after r (set bytes i (bit_xor (get_or bytes i 0) b)) ≡ bit_xor (crc_after r bytes) (crc_bits (8 * (length bytes - i)) b)
unfolding crc_after
xor_set r i b [] lt = absurd (omega arith)
xor_set r zero b (x ∷ xs) lt =
    let size : 8 * (length (x ∷ xs) - zero) ≡ 8 + 8 * length xs = omega arith in
    ap (λ y. crc_after (crc_bits 8 y) xs) (sym (xor_assoc r x b)) ∙ ap (λ y. crc_after y xs) (crc_bits-xor 8 (bit_xor r x) b) ∙ apart_xor (crc_bits 8 (bit_xor r x)) (crc_bits 8 b) xs
    ∙ ap (λ y. bit_xor (crc_after (crc_bits 8 (bit_xor r x)) xs) y) (sym (ap (λ k. crc_bits k b) size ∙ crc_bits-add 8 (8 * length xs) b))
xor_set r (suc i) b (x ∷ xs) lt =
    let size : 8 * (length xs - i) ≡ 8 * (length (x ∷ xs) - suc i) = omega arith in
    xor_set (crc_bits 8 (bit_xor r x)) i b xs (omega arith) ∙ ap (λ k. bit_xor (crc_after (crc_bits 8 (bit_xor r x)) xs) (crc_bits k b)) size

pub take_up_more : (bytes pending : List ℕ) (i whole : ℕ) → length bytes ≡ 300 → i < 300 → i < length pending
    → crc_after 0 bytes ≡ bit_xor whole (crc_bits (8 * (300 - i)) (crc_after 0 (take i pending)))
    → crc_after 0 (set bytes i (bit_xor (get_or bytes i 0) (get_or pending i 0))) ≡ bit_xor whole (crc_bits (8 * (300 - (i + 1))) (crc_after 0 (take (i + 1) pending)))
take_up_more bytes pending i whole size short lt so_far =
    let b : ℕ = get_or pending i 0 in
    let before : ℕ = crc_after 0 (take i pending) in
    let k : ℕ = 8 * (300 - (i + 1)) in
    let m : ℕ = 8 * (300 - i) in
    let bits : 8 + k ≡ m = omega arith in
    let left : 8 * (length bytes - i) ≡ m = omega arith in
    let later : crc_bits k (crc_after 0 (take (i + 1) pending)) ≡ bit_xor (crc_bits m before) (crc_bits m b)
    = ap (λ x. crc_bits k x) (after_more 0 i pending lt) ∙ sym (crc_bits-add 8 k (bit_xor before b)) ∙ ap (λ n. crc_bits n (bit_xor before b)) bits ∙ crc_bits-xor m before b in
    xor_set 0 i b bytes (omega arith) ∙ ap (λ n. bit_xor (crc_after 0 bytes) (crc_bits n b)) left ∙ ap (λ x. bit_xor x (crc_bits m b)) so_far
    ∙ xor_assoc whole (crc_bits m before) (crc_bits m b) ∙ ap (λ x. bit_xor whole x) (sym later)

pub none_taken : (whole : ℕ) → whole ≡ bit_xor whole (crc_bits 2400 (crc_after 0 []))
unfolding crc_after
none_taken whole = sym (ap (λ x. bit_xor whole x) (crc_bits-zero 2400) ∙ xor_zero_r whole)

pub all_taken : (r p q s t : ℕ) (last w : List ℕ) → length last ≡ 300 → 300 ≤ length w → owed (take 300 w) ≡ crc_bits 2400 r
    → p ≡ bit_xor (crc_after 0 last) (crc_bits (8 * (300 - length (drop 155 (take 300 w)))) (crc_after 0 (drop 155 (take 300 w))))
    → q ≡ bit_xor p (crc_bits (8 * (300 - length (drop 117 (take 300 w)))) (crc_after 0 (drop 117 (take 300 w))))
    → s ≡ bit_xor q (crc_bits (8 * (300 - length (drop 89 (take 300 w)))) (crc_after 0 (drop 89 (take 300 w))))
    → t ≡ bit_xor s (crc_bits (8 * (300 - length (take 300 w))) (crc_after 0 (take 300 w))) → t ≡ crc_after r last
unfolding owed crc_bits
all_taken r p q s t last w size within stands hp hq hs ht =
    let h : List ℕ = take 300 w in
    let long : length h ≡ 300 = length-take-le 300 w within in
    let at : (m n k : ℕ) → m + n ≡ 300 → 8 * m ≡ k → crc_bits (8 * (300 - length (drop m h))) (crc_after 0 (drop m h)) ≡ crc_bits k (crc_after 0 (ending n h))
    = λ m n k e f. ap (λ i. crc_bits i (crc_after 0 (drop m h))) (let g : 8 * (300 - length (drop m h)) ≡ k = omega (arith, length-drop m h) in g)
    ∙ ap (λ i. crc_bits k (crc_after 0 (drop i h))) (let g : m ≡ length h - n = omega arith in g) in
    let c : ℕ = crc_after 0 last in
    let x : ℕ = crc_bits 1240 (crc_after 0 (ending 145 h)) in
    let y : ℕ = crc_bits 936 (crc_after 0 (ending 183 h)) in
    let z : ℕ = crc_bits 712 (crc_after 0 (ending 211 h)) in
    let u : ℕ = crc_after 0 (ending 300 h) in
    let bits : 8 * length last ≡ 2400 = omega arith in
    let one : p ≡ bit_xor c x = hp ∙ join refl (at 155 145 1240 refl refl) in
    let two : q ≡ bit_xor (bit_xor c x) y = hq ∙ join one (at 117 183 936 refl refl) in
    let three : s ≡ bit_xor (bit_xor (bit_xor c x) y) z = hs ∙ join two (at 89 211 712 refl refl) in
    ht ∙ join three (at 0 300 0 refl refl) ∙ chain c x y z u ∙ xor_comm c (bit_xor (bit_xor x y) (bit_xor z u)) ∙ ap (λ e. bit_xor e c) stands
    ∙ sym (crc_after_apart r last ∙ ap (λ n. bit_xor (crc_bits n r) c) bits)

-- Each row of the tables is the one before it, eight bits on.
use Rattle.std.proofs.Common.{◌≡◌, ℕ, zero, suc, ◌+◌, ◌*◌, ◌<◌, Bool, true, false, cond, eqb, List, [], ◌∷◌, length, get_or, refl, sym, ap, ◌∙◌, arith}
use Rattle.std.proofs.lemmas.Bool.{eqb-true}
use Rattle.raft_log_record_checksum.specs.Checksum.{crc_bits}
use Rattle.raft_log_record_checksum.specs.declared.checksum.few_zeros.TheConstants.{AFTER_FEW}
use Rattle.raft_log_record_checksum.specs.declared.checksum.many_zeros.TheConstants.{AFTER_MANY}
use Rattle.raft_log_record_checksum.proofs.Crc.{crc_bits-add}

unfoldable follows : List ℕ → List ℕ → Bool
follows [] [] = true
follows [] (y ∷ ys) = false
follows (x ∷ xs) [] = false
follows (x ∷ xs) (y ∷ ys) = cond (eqb (crc_bits 8 x) y) (follows xs ys) false

unfoldable all_follow : List ℕ → List (List ℕ) → Bool
all_follow before [] = true
all_follow before (row ∷ rows) = cond (follows before row) (all_follow row rows) false

unfoldable count_up : ℕ → ℕ → List ℕ
count_up zero i = []
count_up (suc n) i = i ∷ count_up n (suc i)

get_or-count_up : (n i j d : ℕ) → j < n → get_or (count_up n i) j d ≡ i + j
unfolding count_up
get_or-count_up zero i j d lt = absurd (omega arith)
get_or-count_up (suc n) i zero d lt = omega arith
get_or-count_up (suc n) i (suc j) d lt = get_or-count_up n (suc i) j d (omega arith) ∙ omega arith

both_true : (a b : Bool) → cond a b false ≡ true → (a ≡ true) × (b ≡ true)
both_true true b e = (refl, e)
both_true false b e = absurd cc

follows_at : (xs ys : List ℕ) (i d : ℕ) → follows xs ys ≡ true → i < length xs → get_or ys i d ≡ crc_bits 8 (get_or xs i d)
unfolding follows
follows_at [] ys i d e lt = absurd (omega arith)
follows_at (x ∷ xs) [] i d e lt = absurd cc
follows_at (x ∷ xs) (y ∷ ys) zero d e lt = let p = both_true (eqb (crc_bits 8 x) y) (follows xs ys) e in sym (eqb-true (crc_bits 8 x) y p.0)
follows_at (x ∷ xs) (y ∷ ys) (suc i) d e lt = let p = both_true (eqb (crc_bits 8 x) y) (follows xs ys) e in follows_at xs ys i d p.1 (omega arith)

follows_length : (xs ys : List ℕ) → follows xs ys ≡ true → length ys ≡ length xs
unfolding follows
follows_length [] [] e = refl
follows_length [] (y ∷ ys) e = absurd cc
follows_length (x ∷ xs) [] e = absurd cc
follows_length (x ∷ xs) (y ∷ ys) e = let p = both_true (eqb (crc_bits 8 x) y) (follows xs ys) e in omega (arith, follows_length xs ys p.1)

-- the entry of a row, so many rows on
entry_at : (before : List ℕ) (rows : List (List ℕ)) (k i : ℕ) (row : List ℕ) (d : ℕ) → all_follow before rows ≡ true → k < length rows → i < length before
    → get_or (get_or rows k row) i d ≡ crc_bits (8 * (k + 1)) (get_or before i d)
unfolding all_follow
entry_at before [] k i row d e kt it = absurd (omega arith)
entry_at before (first ∷ rows) zero i row d e kt it = let p = both_true (follows before first) (all_follow first rows) e in follows_at before first i d p.0 it
entry_at before (first ∷ rows) (suc k) i row d e kt it =
    let p = both_true (follows before first) (all_follow first rows) e in
    let size : 8 * (suc k + 1) ≡ 8 + 8 * (k + 1) = omega arith in
    entry_at first rows k i row d p.1 (omega arith) (omega (arith, follows_length before first p.0))
    ∙ ap (λ x. crc_bits (8 * (k + 1)) x) (follows_at before first i d p.0 it) ∙ sym (ap (λ n. crc_bits n (get_or before i d)) size ∙ crc_bits-add 8 (8 * (k + 1)) (get_or before i d))

few_follow : all_follow (count_up 256 0) AFTER_FEW ≡ true
unfolding all_follow follows count_up crc_bits
few_follow = refl

length-count_up : (n i : ℕ) → length (count_up n i) ≡ n
unfolding count_up
length-count_up zero i = refl
length-count_up (suc n) i = omega (arith, length-count_up n (suc i))

pub few_at : (k b : ℕ) (row : List ℕ) (d : ℕ) → k < 8 → b < 256 → get_or (get_or AFTER_FEW k row) b d ≡ crc_bits (8 * (k + 1)) b
few_at k b row d kt bt =
    entry_at (count_up 256 0) AFTER_FEW k b row d few_follow kt (omega (arith, length-count_up 256 0))
    ∙ ap (λ x. crc_bits (8 * (k + 1)) x) (get_or-count_up 256 0 b d bt ∙ omega arith)

many_follow : all_follow (get_or AFTER_FEW 7 []) AFTER_MANY ≡ true
unfolding all_follow follows crc_bits
many_follow = refl

pub many_at : (k b : ℕ) (row : List ℕ) (d : ℕ) → k < 8 → b < 256 → get_or (get_or AFTER_MANY k row) b d ≡ crc_bits (8 * (k + 9)) b
many_at k b row d kt bt =
    let size : 64 + 8 * (k + 1) ≡ 8 * (k + 9) = omega arith in
    entry_at (get_or AFTER_FEW 7 []) AFTER_MANY k b row d many_follow kt bt
    ∙ ap (λ x. crc_bits (8 * (k + 1)) x) (few_at 7 b [] d (omega arith) bt) ∙ sym (crc_bits-add 64 (8 * (k + 1)) b) ∙ ap (λ n. crc_bits n b) size

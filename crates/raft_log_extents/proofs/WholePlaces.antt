-- Places that are kept as eight numbers each.
use Rattle.std.proofs.Common.{◌≡◌, ℕ, zero, suc, ◌+◌, ◌*◌, ◌/◌, ◌%◌, ◌<◌, ◌≤◌, ◌^◌, List, [], ◌∷◌, ◌++◌, length, drop, take, slice_index_or, refl, ap, ap₂, ◌∙◌, arith, drop-drop, length-drop, length-take-le, sym, take-append-drop}
use Rattle.std.proofs.Math.Nat.{mod-add-div'}
use Rattle.std.proofs.lemmas.List.{drop-append-le, get_or_append_left}
use Rattle.raft_log_extents.specs.declared.place.Place.{Place}
use Rattle.raft_log_extents.specs.Words.{number_at, place_from, whole_places, words_of}

pub length-whole : (n : ℕ) (ws : List ℕ) → length (whole_places n ws) ≡ n
length-whole zero ws = refl
length-whole (suc n) ws = ap suc (length-whole n (drop 8 ws))

-- more numbers change nothing
number-more : (ws ts : List ℕ) (k : ℕ) → k + 1 < length ws → number_at (ws ++ ts) k ≡ number_at ws k
number-more ws ts k h = ap₂ (λ a b. a + b * 2 ^ 32) (get_or_append_left ws ts 0 k (omega (arith, h))) (get_or_append_left ws ts 0 (k + 1) h)

place-more : (ws ts : List ℕ) → 8 ≤ length ws → place_from (ws ++ ts) ≡ place_from ws
place-more ws ts h =
    let file = number-more ws ts 0 (omega (arith, h)) in
    let offset = number-more ws ts 2 (omega (arith, h)) in
    let len = number-more ws ts 4 (omega (arith, h)) in
    let start = get_or_append_left ws ts 0 6 (omega (arith, h)) in
    let size = get_or_append_left ws ts 0 7 (omega (arith, h)) in
    λ i. record { file = file i; offset = offset i; len = len i; entry_offset = start i; entry_len = size i }

pub whole-more : (n : ℕ) (ws ts : List ℕ) → n * 8 ≤ length ws → whole_places n (ws ++ ts) ≡ whole_places n ws
whole-more zero ws ts h = refl
whole-more (suc n) ws ts h =
    let rest = length-drop 8 ws in
    ap₂ ◌∷◌ (place-more ws ts (omega (arith, h)))
    (ap (whole_places n) (drop-append-le 8 ws ts (omega (arith, h))) ∙ whole-more n (drop 8 ws) ts (omega (arith, rest, h)))

from_start : (ws : List ℕ) → ws ≡ drop (0 * 8) ws
from_start ws = ap (λ m. drop m ws) (let same : 0 ≡ 0 * 8 = omega arith in same)

past_one : (j : ℕ) (ws : List ℕ) → drop (j * 8) (drop 8 ws) ≡ drop (suc j * 8) ws
past_one j ws = drop-drop (j * 8) 8 ws ∙ ap (λ m. drop m ws) (let same : 8 + j * 8 ≡ suc j * 8 = omega arith in same)

pub take-whole : (n j : ℕ) (ws : List ℕ) → j ≤ n → take j (whole_places n ws) ≡ whole_places j ws
take-whole n zero ws h = refl
take-whole zero (suc j) ws h = absurd (omega arith)
take-whole (suc n) (suc j) ws h = ap (λ l. place_from ws ∷ l) (take-whole n j (drop 8 ws) (omega arith))

pub drop-whole : (n j k : ℕ) (ws : List ℕ) → n ≡ j + k → drop j (whole_places n ws) ≡ whole_places k (drop (j * 8) ws)
drop-whole n zero k ws e = ap₂ whole_places (let same : n ≡ k = omega (arith, e) in same) (from_start ws)
drop-whole zero (suc j) k ws e = absurd (omega arith)
drop-whole (suc n) (suc j) k ws e = drop-whole n j k (drop 8 ws) (omega arith) ∙ ap (whole_places k) (past_one j ws)

pub get-whole : (n j : ℕ) (ws : List ℕ) (d : Place) → j < n → slice_index_or (whole_places n ws) j d ≡ place_from (drop (j * 8) ws)
get-whole zero j ws d h = absurd (omega arith)
get-whole (suc n) zero ws d h = ap place_from (from_start ws)
get-whole (suc n) (suc j) ws d h = get-whole n j (drop 8 ws) d (omega arith) ∙ ap place_from (past_one j ws)

-- the place that was encoded
halves : (n : ℕ) → n % 2 ^ 32 + n / 2 ^ 32 * 2 ^ 32 ≡ n
halves n = mod-add-div' n (2 ^ 32)

pub place-words : (p : Place) (ts : List ℕ) → place_from (words_of p ++ ts) ≡ p
place-words p ts = λ i. record { file = halves p.file i; offset = halves p.offset i; len = halves p.len i; entry_offset = p.entry_offset; entry_len = p.entry_len }

-- one place more
pub whole-push : (n : ℕ) (ws : List ℕ) (p : Place) → length ws ≡ n * 8 → whole_places (suc n) (ws ++ words_of p) ≡ whole_places n ws ++ (p ∷ [])
whole-push zero [] p h = ap (λ q. q ∷ []) (place-words p [])
whole-push zero (w ∷ ws) p h = absurd (omega (arith, h))
whole-push (suc n) ws p h =
    let rest = length-drop 8 ws in
    ap₂ ◌∷◌ (place-more ws (words_of p) (omega (arith, h)))
    (ap (whole_places (suc n)) (drop-append-le 8 ws (words_of p) (omega (arith, h))) ∙ whole-push n (drop 8 ws) p (omega (arith, rest, h)))

-- so many places, and others after them
pub whole-plus : (i c : ℕ) (ws : List ℕ) → whole_places (i + c) ws ≡ whole_places i ws ++ whole_places c (drop (i * 8) ws)
whole-plus zero c ws = ap₂ whole_places (let same : 0 + c ≡ c = omega arith in same) (from_start ws)
whole-plus (suc i) c ws =
    ap (λ n. whole_places n ws) (let same : suc i + c ≡ suc (i + c) = omega arith in same)
    ∙ ap (λ l. place_from ws ∷ l) (whole-plus i c (drop 8 ws) ∙ ap (λ l. whole_places i (drop 8 ws) ++ whole_places c l) (past_one i ws))

-- numbers taken from the front are enough
pub whole-take : (n k : ℕ) (ws : List ℕ) → n * 8 ≤ k → k ≤ length ws → whole_places n (take k ws) ≡ whole_places n ws
whole-take n k ws h l =
    let long = length-take-le k ws l in
    sym (whole-more n (take k ws) (drop k ws) (omega (arith, h, long))) ∙ ap (whole_places n) (take-append-drop k ws)

-- How many of the places from a position on fit, or are in files up to a number, counted one after another.
use Rattle.std.proofs.Common.{◌≡◌, ℕ, zero, suc, ◌+◌, ◌-◌, ◌<◌, ◌≤◌, true, false, List, [], ◌∷◌, length, take, drop, Some, slice_index_or, if◌then◌else◌, nat_le, refl, sym, ap, ap₂, subst, ◌∙◌, arith}
use Rattle.std.proofs.lemmas.Bool.Decides.{nat_tests}
use Rattle.raft_log_extents.specs.declared.place.Place.{Place}
use Rattle.raft_log_extents.specs.Counts.{fitting, passing, sized}

if_le : {A : Type 0} (a b : ℕ) (x y : A) → a ≤ b → (if nat_le a b then x else y) ≡ x
if_le a b x y h = ap (λ t. if t then x else y) (let yes : nat_le a b ≡ true = grind (arith, nat_tests) in yes)

if_more : {A : Type 0} (a b : ℕ) (x y : A) → b < a → (if nat_le a b then x else y) ≡ y
if_more a b x y h = ap (λ t. if t then x else y) (let no : nat_le a b ≡ false = grind (arith, nat_tests) in no)

-- a list from a position on, by its element there
drop_at : {A : Type 0} (n : ℕ) (xs : List A) (d : A) → n < length xs → drop n xs ≡ slice_index_or xs n d ∷ drop (n + 1) xs
drop_at zero [] d h = absurd (omega arith)
drop_at (suc n) [] d h = absurd (omega arith)
drop_at zero (x ∷ xs) d h = refl
drop_at (suc n) (x ∷ xs) d h =
    drop_at n xs d (omega arith) ∙ ap (λ k. slice_index_or xs n d ∷ drop k (x ∷ xs)) (let same : suc (n + 1) ≡ suc n + 1 = omega arith in same)

fitting_next : (left position limit i : ℕ) (ps : List Place) (d : Place) → i < limit → position + i < length ps
    → fitting left (take (limit - i) (drop (position + i) ps))
    ≡ (if nat_le (slice_index_or ps (position + i) d).entry_len left
    then suc (fitting (left - (slice_index_or ps (position + i) d).entry_len) (take (limit - (i + 1)) (drop (position + (i + 1)) ps))) else 0)
fitting_next left position limit i ps d h k =
    let fewer : limit - i ≡ suc (limit - (i + 1)) = omega arith in
    let further : position + i + 1 ≡ position + (i + 1) = omega arith in
    let p = slice_index_or ps (position + i) d in
    ap₂ (λ n l. fitting left (take n l)) fewer (drop_at (position + i) ps d k)
    ∙ ap (λ n. if nat_le p.entry_len left then suc (fitting (left - p.entry_len) (take (limit - (i + 1)) (drop n ps))) else 0) further

-- the count so far, where the next one fits, and where it doesn't
pub fits_on : (left position limit i : ℕ) (ps : List Place) (d : Place) (all : ℕ) → i < limit → position + i < length ps → (slice_index_or ps (position + i) d).entry_len ≤ left
    → all ≡ i + fitting left (take (limit - i) (drop (position + i) ps))
    → all ≡ (i + 1) + fitting (left - (slice_index_or ps (position + i) d).entry_len) (take (limit - (i + 1)) (drop (position + (i + 1)) ps))
fits_on left position limit i ps d all h k low e =
    let p = slice_index_or ps (position + i) d in
    let one = fitting_next left position limit i ps d h k
    ∙ if_le p.entry_len left (suc (fitting (left - p.entry_len) (take (limit - (i + 1)) (drop (position + (i + 1)) ps)))) 0 low in
    omega (arith, e, one)

pub fits_no_more : (left position limit i : ℕ) (ps : List Place) (d : Place) (all : ℕ) → i < limit → position + i < length ps → left < (slice_index_or ps (position + i) d).entry_len
    → all ≡ i + fitting left (take (limit - i) (drop (position + i) ps)) → i ≡ all
fits_no_more left position limit i ps d all h k high e =
    let p = slice_index_or ps (position + i) d in
    let none = fitting_next left position limit i ps d h k
    ∙ if_more p.entry_len left (suc (fitting (left - p.entry_len) (take (limit - (i + 1)) (drop (position + (i + 1)) ps)))) 0 high in
    omega (arith, e, none)

-- the first
pub first_fits : (max position limit : ℕ) (ps : List Place) (d : Place) → 0 < limit → position < length ps
    → sized (Some max) (take limit (drop position ps))
    ≡ (if nat_le (slice_index_or ps position d).entry_len max
    then suc (fitting (max - (slice_index_or ps position d).entry_len) (take (limit - 1) (drop (position + 1) ps))) else 1)
first_fits max position limit ps d h k =
    let fewer : limit ≡ suc (limit - 1) = omega arith in
    ap₂ (λ n l. sized (Some max) (take n l)) fewer (drop_at position ps d k)

-- the same of the place that was read
pub starts : (max position limit : ℕ) (ps : List Place) (p : Place) → p ≡ slice_index_or ps position p → 0 < limit → position < length ps → p.entry_len ≤ max
    → sized (Some max) (take limit (drop position ps)) ≡ 1 + fitting (max - p.entry_len) (take (limit - 1) (drop (position + 1) ps))
starts max position limit ps p same h k low =
    let rest = take (limit - 1) (drop (position + 1) ps) in
    let one = first_fits max position limit ps p h k
    ∙ ap (λ q. if nat_le q.entry_len max then suc (fitting (max - q.entry_len) rest) else 1) (sym same)
    ∙ if_le p.entry_len max (suc (fitting (max - p.entry_len) rest)) 1 low in
    omega (arith, one)

pub goes : (left position limit i : ℕ) (ps : List Place) (p : Place) (all : ℕ) → p ≡ slice_index_or ps (position + i) p → i < limit → position + i < length ps → p.entry_len ≤ left
    → all ≡ i + fitting left (take (limit - i) (drop (position + i) ps))
    → all ≡ (i + 1) + fitting (left - p.entry_len) (take (limit - (i + 1)) (drop (position + (i + 1)) ps))
goes left position limit i ps p all same h k low e =
    subst (λ q. all ≡ (i + 1) + fitting (left - q.entry_len) (take (limit - (i + 1)) (drop (position + (i + 1)) ps))) (sym same)
    (fits_on left position limit i ps p all h k (subst (λ q. q.entry_len ≤ left) same low) e)

pub ends : (left position limit i : ℕ) (ps : List Place) (p : Place) (all : ℕ) → p ≡ slice_index_or ps (position + i) p → i < limit → position + i < length ps → left < p.entry_len
    → all ≡ i + fitting left (take (limit - i) (drop (position + i) ps)) → i ≡ all
ends left position limit i ps p all same h k high e = fits_no_more left position limit i ps p all h k (subst (λ q. left < q.entry_len) same high) e

-- The places in files up to a number.
-- one place more: it passes, or the count ends
pub passing_next : (gate position limit i : ℕ) (ps : List Place) (d : Place) → i < limit → position + i < length ps
    → passing gate (take (limit - i) (drop (position + i) ps))
    ≡ (if nat_le (slice_index_or ps (position + i) d).file gate then suc (passing gate (take (limit - (i + 1)) (drop (position + (i + 1)) ps))) else 0)
passing_next gate position limit i ps d h k =
    let fewer : limit - i ≡ suc (limit - (i + 1)) = omega arith in
    let further : position + i + 1 ≡ position + (i + 1) = omega arith in
    ap₂ (λ n l. passing gate (take n l)) fewer (drop_at (position + i) ps d k)
    ∙ ap (λ n. if nat_le (slice_index_or ps (position + i) d).file gate then suc (passing gate (take (limit - (i + 1)) (drop n ps))) else 0) further

-- the count so far, where the next one passes, and where it doesn't
pub goes_on : (gate position limit i : ℕ) (ps : List Place) (d : Place) (all : ℕ) → i < limit → position + i < length ps → (slice_index_or ps (position + i) d).file ≤ gate
    → all ≡ i + passing gate (take (limit - i) (drop (position + i) ps)) → all ≡ (i + 1) + passing gate (take (limit - (i + 1)) (drop (position + (i + 1)) ps))
goes_on gate position limit i ps d all h k low e =
    let one = passing_next gate position limit i ps d h k
    ∙ if_le (slice_index_or ps (position + i) d).file gate (suc (passing gate (take (limit - (i + 1)) (drop (position + (i + 1)) ps)))) 0 low in
    omega (arith, e, one)

pub stops : (gate position limit i : ℕ) (ps : List Place) (d : Place) (all : ℕ) → i < limit → position + i < length ps → gate < (slice_index_or ps (position + i) d).file
    → all ≡ i + passing gate (take (limit - i) (drop (position + i) ps)) → i ≡ all
stops gate position limit i ps d all h k high e =
    let none = passing_next gate position limit i ps d h k
    ∙ if_more (slice_index_or ps (position + i) d).file gate (suc (passing gate (take (limit - (i + 1)) (drop (position + (i + 1)) ps)))) 0 high in
    omega (arith, e, none)

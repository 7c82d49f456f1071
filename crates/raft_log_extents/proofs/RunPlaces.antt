-- The places of a run, cut in two and looked at one by one.
use Rattle.std.proofs.Common.{◌≡◌, ℕ, zero, suc, ◌+◌, ◌-◌, ◌*◌, ◌<◌, ◌≤◌, ◌^◌, Bool, true, false, List, [], ◌∷◌, ◌++◌, length, take, drop, slice_index_or, refl, sym, ap, subst, ◌∙◌, arith, zero-mul, suc-mul, add-mul, length-take-le, take-take}
use Rattle.std.proofs.lemmas.List.{drop-take, take-append-le}
use Rattle.raft_log_extents.specs.declared.place.Place.{Place}
use Rattle.raft_log_extents.specs.declared.run.Run.{Run}
use Rattle.raft_log_extents.specs.Blocks.{even_places, in_block, uneven_places}
use Rattle.raft_log_extents.specs.Runs.{StartsFit, block, laid, width_of}

pub width_le : (e : Bool) (n : ℕ) → width_of e n ≤ n
width_le true n = omega arith
width_le false n = omega arith

pub width-plus : (e : Bool) (m n : ℕ) → width_of e (m + n) ≡ width_of e m + width_of e n
width-plus true m n = refl
width-plus false m n = refl

-- Entries of one length.
pub length-even : (b : Place) (s o n : ℕ) → length (even_places b s o n) ≡ n
length-even b s o zero = refl
length-even b s o (suc n) = ap suc (length-even b s (o + s) n)

pub get-even : (b : Place) (s o n j : ℕ) (d : Place) → j < n → slice_index_or (even_places b s o n) j d ≡ in_block b (o + j * s) s
get-even b s o zero j d h = absurd (omega arith)
get-even b s o (suc n) zero d h = ap (λ k. in_block b k s) (let none = zero-mul s in let same : o ≡ o + 0 * s = omega (arith, none) in same)
get-even b s o (suc n) (suc j) d h =
    get-even b s (o + s) n j d (omega arith)
    ∙ ap (λ k. in_block b k s) (let one = suc-mul j s in let same : o + s + j * s ≡ o + suc j * s = omega (arith, one) in same)

pub take-even : (b : Place) (s o n j : ℕ) → j ≤ n → take j (even_places b s o n) ≡ even_places b s o j
take-even b s o n zero h = refl
take-even b s o zero (suc j) h = absurd (omega arith)
take-even b s o (suc n) (suc j) h = ap (λ l. in_block b o s ∷ l) (take-even b s (o + s) n j (omega arith))

pub drop-even : (b : Place) (s o n j k : ℕ) (d : Place) → n ≡ j + k → j < n
    → drop j (even_places b s o n) ≡ even_places b s (slice_index_or (even_places b s o n) j d).entry_offset k
drop-even b s o zero j k d e h = absurd (omega arith)
drop-even b s o (suc n) zero k d e h = ap (even_places b s o) (let same : suc n ≡ k = omega arith in same)
drop-even b s o (suc n) (suc j) k d e h = drop-even b s (o + s) n j k d (omega arith) (omega arith)

-- Entries of different lengths.
pub length-uneven : (b : Place) (s : ℕ) (os : List ℕ) → length (uneven_places b s os) ≡ length os
length-uneven b s [] = refl
length-uneven b s (o ∷ []) = refl
length-uneven b s (o ∷ (p ∷ os)) = ap suc (length-uneven b s (p ∷ os))

pub get-uneven_last : (b : Place) (s : ℕ) (os : List ℕ) (j : ℕ) (d : Place) → length os ≡ j + 1
    → slice_index_or (uneven_places b s os) j d ≡ in_block b (slice_index_or os j 0) s
get-uneven_last b s [] j d h = absurd (omega arith)
get-uneven_last b s (o ∷ []) zero d h = refl
get-uneven_last b s (o ∷ []) (suc j) d h = absurd (omega arith)
get-uneven_last b s (o ∷ (p ∷ os)) zero d h = absurd (omega arith)
get-uneven_last b s (o ∷ (p ∷ os)) (suc j) d h = get-uneven_last b s (p ∷ os) j d (omega arith)

pub get-uneven : (b : Place) (s : ℕ) (os : List ℕ) (j : ℕ) (d : Place) → j + 1 < length os
    → slice_index_or (uneven_places b s os) j d ≡ in_block b (slice_index_or os j 0) (slice_index_or os (j + 1) 0 - slice_index_or os j 0)
get-uneven b s [] j d h = absurd (omega arith)
get-uneven b s (o ∷ []) j d h = absurd (omega arith)
get-uneven b s (o ∷ (p ∷ os)) zero d h = refl
get-uneven b s (o ∷ (p ∷ os)) (suc j) d h =
    get-uneven b s (p ∷ os) j d (omega arith)
    ∙ ap (λ k. in_block b (slice_index_or (p ∷ os) j 0) (slice_index_or (o ∷ (p ∷ os)) k 0 - slice_index_or (p ∷ os) j 0)) (let same : suc (j + 1) ≡ suc j + 1 = omega arith in same)

pub take-uneven : (b : Place) (s : ℕ) (os : List ℕ) (i : ℕ) (d : Place) → i < length os
    → take (suc i) (uneven_places b s os) ≡ uneven_places b (slice_index_or (uneven_places b s os) i d).entry_len (take (suc i) os)
take-uneven b s [] i d h = absurd (omega arith)
take-uneven b s (o ∷ []) zero d h = refl
take-uneven b s (o ∷ []) (suc i) d h = absurd (omega arith)
take-uneven b s (o ∷ (p ∷ os)) zero d h = refl
take-uneven b s (o ∷ (p ∷ os)) (suc i) d h = ap (λ l. in_block b o (p - o) ∷ l) (take-uneven b s (p ∷ os) i d (omega arith))

pub drop-uneven : (b : Place) (s : ℕ) (os : List ℕ) (j : ℕ) → drop j (uneven_places b s os) ≡ uneven_places b s (drop j os)
drop-uneven b s os zero = refl
drop-uneven b s [] (suc j) = refl
drop-uneven b s (o ∷ []) (suc zero) = refl
drop-uneven b s (o ∷ []) (suc (suc j)) = refl
drop-uneven b s (o ∷ (p ∷ os)) (suc j) = drop-uneven b s (p ∷ os) j

-- A run.
pub length-laid : (e : Bool) (r : Run) (ss : List ℕ) → width_of e r.count ≤ length ss → length (laid e r ss) ≡ r.count
length-laid true r ss h = length-even (block r) r.size r.start r.count
length-laid false r ss h = length-uneven (block r) r.size (take r.count ss) ∙ length-take-le r.count ss h

-- more starts behind change nothing
pub laid-more : (e : Bool) (r : Run) (ss ts : List ℕ) → width_of e r.count ≤ length ss → laid e r (ss ++ ts) ≡ laid e r ss
laid-more true r ss ts h = refl
laid-more false r ss ts h = ap (uneven_places (block r) r.size) (take-append-le r.count ss ts h)

pub take-laid : (e : Bool) (r : Run) (ss : List ℕ) (i : ℕ) (d : Place) → i < r.count → width_of e r.count ≤ length ss
    → take (suc i) (laid e r ss) ≡ laid e (record r { count = suc i; size = (slice_index_or (laid e r ss) i d).entry_len; alone = 0 }) ss
take-laid true r ss i d h k =
    take-even (block r) r.size r.start r.count (suc i) (omega arith)
    ∙ ap (λ z. even_places (block r) z r.start (suc i)) (sym (ap (λ p. p.entry_len) (get-even (block r) r.size r.start r.count i d h)))
take-laid false r ss i d h k =
    let long = length-take-le r.count ss k in
    take-uneven (block r) r.size (take r.count ss) i d (omega (arith, long, h))
    ∙ ap (uneven_places (block r) (slice_index_or (laid false r ss) i d).entry_len) (take-take (suc i) r.count ss (omega arith))

pub drop-laid : (e : Bool) (r : Run) (ss : List ℕ) (j k n m : ℕ) (d : Place) → r.count ≡ j + k → j < r.count
    → drop j (laid e r ss) ≡ laid e (record r { first = n; count = k; at = m; start = (slice_index_or (laid e r ss) j d).entry_offset }) (drop (width_of e j) ss)
drop-laid true r ss j k n m d e h = drop-even (block r) r.size r.start r.count j k d e h
drop-laid false r ss j k n m d e h =
    drop-uneven (block r) r.size (take r.count ss) j
    ∙ ap (λ c. uneven_places (block r) r.size (drop j (take c ss))) e
    ∙ ap (uneven_places (block r) r.size) (drop-take j k ss)

-- the place at an offset of a run
pub get-laid_even : (r : Run) (ss : List ℕ) (j : ℕ) (d : Place) → j < r.count → slice_index_or (laid true r ss) j d ≡ in_block (block r) (r.start + j * r.size) r.size
get-laid_even r ss j d h = get-even (block r) r.size r.start r.count j d h

-- Offsets of 32 bits.
pub head_fits : (e : Bool) (r : Run) (ss : List ℕ) (i : ℕ) (d : Place) → i < r.count → StartsFit e r
    → StartsFit e (record r { count = suc i; size = (slice_index_or (laid e r ss) i d).entry_len; alone = 0 })
head_fits true r ss i d h f =
    subst (λ z. (j : ℕ) → j < suc i → r.start + j * z < 2 ^ 32) (sym (ap (λ p. p.entry_len) (get-even (block r) r.size r.start r.count i d h)))
    (λ j k. f j (omega arith))
head_fits false r ss i d h f = tt

pub tail_fits : (e : Bool) (r : Run) (ss : List ℕ) (j k n m : ℕ) (d : Place) → r.count ≡ j + k → j < r.count → StartsFit e r
    → StartsFit e (record r { first = n; count = k; at = m; start = (slice_index_or (laid e r ss) j d).entry_offset })
tail_fits true r ss j k n m d e h f =
    subst (λ o. (i : ℕ) → i < k → o + i * r.size < 2 ^ 32) (sym (ap (λ p. p.entry_offset) (get-even (block r) r.size r.start r.count j d h)))
    (λ i l. let all = f (j + i) (omega arith) in let parts = add-mul j i r.size in omega (arith, all, parts))
tail_fits false r ss j k n m d e h f = tt

-- Lists of runs: how many entries they have, and what they stand for once they are cut, turned and joined.
use Rattle.std.proofs.Common.{◌≡◌, ℕ, zero, suc, ◌+◌, ◌-◌, ◌*◌, ◌<◌, ◌≤◌, ◌^◌, Bool, true, false, List, [], ◌∷◌, ◌++◌, length, take, drop, slice_index_or, refl, sym, ap, ap₂, subst, subst₂, ◌∙◌, arith, append_assoc, append-nil, length-append, length-drop, length-take-le, take-append-drop, drop-drop}
use Rattle.std.proofs.lemmas.List.{drop-append-le, drop_at, drop-take, take-append-le, get_or_append_left}
use Rattle.raft_log_extents.specs.declared.place.Place.{Place}
use Rattle.raft_log_extents.specs.declared.run.Run.{Run}
use Rattle.raft_log_extents.specs.Runs.{IsNumbered, IsSound, StartsFit, counts, expand, head, laid, places_of, renumbered, span, tail, total, width, width_of, widths}
use Rattle.raft_log_extents.specs.Words.{whole_places}
use Rattle.raft_log_extents.proofs.RunPlaces.{width_le}
use Rattle.raft_log_extents.proofs.RunParts.{drop-places, first-head, first-tail, head_fit, length-places, places-more, places-take, span_le, tail_fit, take-places, total-head, total-tail, width-head, width-tail}

pub counts-append : (rs qs : List Run) → counts (rs ++ qs) ≡ counts rs + counts qs
counts-append [] qs = omega arith
counts-append (r ∷ rs) qs = ap (λ n. total r + n) (counts-append rs qs) ∙ omega arith

pub widths-append : (rs qs : List Run) → widths (rs ++ qs) ≡ widths rs + widths qs
widths-append [] qs = omega arith
widths-append (r ∷ rs) qs = ap (λ n. width r + n) (widths-append rs qs) ∙ omega arith

-- each entry has at most eight starts
pub widths_le : (rs : List Run) → widths rs ≤ counts rs * 8
widths_le [] = omega arith
widths_le (r ∷ rs) = let one = width_le r.even r.count in let rest = widths_le rs in omega (arith, one, rest)

-- What runs stand for.
pub length-expand : (rs : List Run) (ss : List ℕ) → widths rs ≤ length ss → length (expand rs ss) ≡ counts rs
length-expand [] ss h = refl
length-expand (r ∷ rs) ss h =
    let rest = length-drop (width r) ss in
    length-append (places_of r ss) (expand rs (drop (width r) ss))
    ∙ ap₂ ◌+◌ (length-places r ss (omega (arith, h))) (length-expand rs (drop (width r) ss) (omega (arith, rest)))

pub expand-more : (rs : List Run) (ss ts : List ℕ) → widths rs ≤ length ss → expand rs (ss ++ ts) ≡ expand rs ss
expand-more [] ss ts h = refl
expand-more (r ∷ rs) ss ts h =
    let rest = length-drop (width r) ss in
    ap₂ ◌++◌ (places-more r ss (omega (arith, h)) ts)
    (ap (expand rs) (drop-append-le (width r) ss ts (omega arith)) ∙ expand-more rs (drop (width r) ss) ts (omega (arith, rest)))

pub expand-append : (rs qs : List Run) (ss : List ℕ) → expand (rs ++ qs) ss ≡ expand rs ss ++ expand qs (drop (widths rs) ss)
expand-append [] qs ss = refl
expand-append (r ∷ rs) qs ss =
    ap (λ l. places_of r ss ++ l)
    (expand-append rs qs (drop (width r) ss) ∙ ap (λ l. expand rs (drop (width r) ss) ++ expand qs l) (drop-drop (widths rs) (width r) ss))
    ∙ sym (append_assoc (places_of r ss) (expand rs (drop (width r) ss)) (expand qs (drop (width r + widths rs) ss)))

-- starts taken from the front are enough
pub expand-take : (rs : List Run) (n : ℕ) (ss : List ℕ) → widths rs ≤ n → n ≤ length ss → expand rs (take n ss) ≡ expand rs ss
expand-take rs n ss h k =
    let long = length-take-le n ss k in
    sym (expand-more rs (take n ss) (drop n ss) (omega (arith, long))) ∙ ap (expand rs) (take-append-drop n ss)

-- numbers say nothing of places
same_laid : (e : Bool) (r : Run) (n m : ℕ) (ss : List ℕ) → laid e (record r { first = n; at = m }) ss ≡ laid e r ss
same_laid true r n m ss = refl
same_laid false r n m ss = refl

pub expand-renumbered : (n m : ℕ) (rs : List Run) (ss : List ℕ) → expand (renumbered n m rs) ss ≡ expand rs ss
expand-renumbered n m [] ss = refl
expand-renumbered n m (r ∷ rs) ss =
    ap₂ ◌++◌ (ap (λ l. l ++ whole_places r.alone (drop (width_of r.even r.count) ss)) (same_laid r.even r n m ss)) (expand-renumbered (n + total r) (m + width r) rs (drop (width r) ss))

pub length-renumbered : (n m : ℕ) (rs : List Run) → length (renumbered n m rs) ≡ length rs
length-renumbered n m [] = refl
length-renumbered n m (r ∷ rs) = ap suc (length-renumbered (n + total r) (m + width r) rs)

pub counts-renumbered : (n m : ℕ) (rs : List Run) → counts (renumbered n m rs) ≡ counts rs
counts-renumbered n m [] = refl
counts-renumbered n m (r ∷ rs) = ap (λ k. total r + k) (counts-renumbered (n + total r) (m + width r) rs)

pub widths-renumbered : (n m : ℕ) (rs : List Run) → widths (renumbered n m rs) ≡ widths rs
widths-renumbered n m [] = refl
widths-renumbered n m (r ∷ rs) = ap (λ k. width r + k) (widths-renumbered (n + total r) (m + width r) rs)

-- the runs have entries, and their offsets fit
abbrev pub AreWhole : List Run → Type 0
AreWhole [] = Unit {0}
AreWhole (r ∷ rs) = (0 < total r) × StartsFit r.even r × AreWhole rs

pub whole : (n m : ℕ) (rs : List Run) → IsNumbered n m rs → AreWhole rs
whole n m [] h = tt
whole n m (r ∷ rs) h = (h.2, h.3, whole (n + total r) (m + width r) rs h.4)

pub whole-append : (rs qs : List Run) → AreWhole rs → AreWhole qs → AreWhole (rs ++ qs)
whole-append [] qs h k = k
whole-append (r ∷ rs) qs h k = (h.0, h.1, whole-append rs qs h.2 k)

pub renumbered_is : (n m : ℕ) (rs : List Run) → AreWhole rs → IsNumbered n m (renumbered n m rs)
renumbered_is n m [] h = tt
renumbered_is n m (r ∷ rs) h = (refl, refl, h.0, fits r.even r h.1, renumbered_is (n + total r) (m + width r) rs h.2)
  where
    fits : (e : Bool) (r : Run) → StartsFit e r → StartsFit e (record r { first = n; at = m })
    fits true r h = h
    fits false r h = tt

pub length_le : (rs : List Run) → AreWhole rs → length rs ≤ counts rs
length_le [] h = omega arith
length_le (r ∷ rs) h = let some = h.0 in let rest = length_le rs h.2 in omega (arith, some, rest)

-- Numbers.
pub numbered_both : (n m a b : ℕ) (rs qs : List Run) → a ≡ n + counts rs → b ≡ m + widths rs → IsNumbered n m rs → IsNumbered a b qs → IsNumbered n m (rs ++ qs)
numbered_both n m a b [] qs e f h k = subst₂ (λ x y. IsNumbered x y qs) (let same : a ≡ n = omega arith in same) (let same : b ≡ m = omega arith in same) k
numbered_both n m a b (r ∷ rs) qs e f h k =
    (h.0, h.1, h.2, h.3, numbered_both (n + total r) (m + width r) a b rs qs (omega arith) (omega arith) h.4 k)

pub numbered_left : (n m : ℕ) (rs qs : List Run) → IsNumbered n m (rs ++ qs) → IsNumbered n m rs
numbered_left n m [] qs h = tt
numbered_left n m (r ∷ rs) qs h = (h.0, h.1, h.2, h.3, numbered_left (n + total r) (m + width r) rs qs h.4)

pub numbered_right : (n m a b : ℕ) (rs qs : List Run) → a ≡ n + counts rs → b ≡ m + widths rs → IsNumbered n m (rs ++ qs) → IsNumbered a b qs
numbered_right n m a b [] qs e f h = subst₂ (λ x y. IsNumbered x y qs) (let same : n ≡ a = omega arith in same) (let same : m ≡ b = omega arith in same) h
numbered_right n m a b (r ∷ rs) qs e f h = numbered_right (n + total r) (m + width r) a b rs qs (omega arith) (omega arith) h.4

-- The runs around one, its numbers, and where its starts come first.
pub record Around (front base len : ℕ) (rs : List Run) (ss : List ℕ) (before : List Run) (r : Run) (after : List Run) : Type 0 where
  pub split : rs ≡ before ++ (r ∷ after)
  pub first : r.first ≡ front + counts before
  pub at : r.at ≡ base + widths before
  pub some : 0 < total r
  pub fits : StartsFit r.even r
  pub left : IsNumbered front base before
  pub right : IsNumbered (r.first + total r) (r.at + width r) after
  pub count : counts before + (total r + counts after) ≡ len
  pub starts : widths before + (width r + widths after) ≡ length ss

pub around : (front base len : ℕ) (rs : List Run) (ss : List ℕ) (before : List Run) (r : Run) (after : List Run)
    → IsSound front base len rs ss → rs ≡ before ++ (r ∷ after) → Around front base len rs ss before r after
around front base len rs ss before r after s e =
    let all = subst (IsNumbered front base) e s.numbered in
    let here = numbered_right front base (front + counts before) (base + widths before) before (r ∷ after) refl refl all in
    record {
      split = e;
      first = here.0;
      at = here.1;
      some = here.2;
      fits = here.3;
      left = numbered_left front base before (r ∷ after) all;
      right = subst₂ (λ x y. IsNumbered (x + total r) (y + width r) after) (sym here.0) (sym here.1) here.4;
      count = sym (counts-append before (r ∷ after)) ∙ ap counts (sym e) ∙ s.count;
      starts = sym (widths-append before (r ∷ after)) ∙ ap widths (sym e) ∙ s.starts_are;
    }

-- The places around one.
pub expand_around : (rs : List Run) (ss : List ℕ) (before : List Run) (r : Run) (after : List Run) → rs ≡ before ++ (r ∷ after)
    → expand rs ss ≡ expand before ss ++ (places_of r (drop (widths before) ss) ++ expand after (drop (widths before + width r) ss))
expand_around rs ss before r after e =
    ap (λ l. expand l ss) e ∙ expand-append before (r ∷ after) ss
    ∙ ap (λ l. expand before ss ++ (places_of r (drop (widths before) ss) ++ expand after l)) (drop-drop (width r) (widths before) ss)

-- two lists of runs, each with its starts
pub joined : (rs qs : List Run) (ss ts : List ℕ) → widths rs ≡ length ss → expand (rs ++ qs) (ss ++ ts) ≡ expand rs ss ++ expand qs ts
joined rs qs ss ts h =
    expand-append rs qs (ss ++ ts)
    ∙ ap₂ ◌++◌ (expand-more rs ss ts (omega (arith, h))) (ap (expand qs) (drop_at ss ts (widths rs) (sym h)))

take_behind : {A : Type 0} (n i : ℕ) (xs ys zs : List A) → length xs ≡ n → i ≤ length ys → take (n + i) (xs ++ (ys ++ zs)) ≡ xs ++ take i ys
take_behind zero i [] ys zs h k = ap (λ m. take m (ys ++ zs)) (let same : 0 + i ≡ i = omega arith in same) ∙ take-append-le i ys zs k
take_behind (suc n) i [] ys zs h k = absurd (omega arith)
take_behind zero i (x ∷ xs) ys zs h k = absurd (omega arith)
take_behind (suc n) i (x ∷ xs) ys zs h k =
    ap (λ m. take m (x ∷ (xs ++ (ys ++ zs)))) (let same : suc n + i ≡ suc (n + i) = omega arith in same)
    ∙ ap (λ l. x ∷ l) (take_behind n i xs ys zs (omega arith) k)

drop_behind : {A : Type 0} (n i : ℕ) (xs ys zs : List A) → length xs ≡ n → i ≤ length ys → drop (n + i) (xs ++ (ys ++ zs)) ≡ drop i ys ++ zs
drop_behind zero i [] ys zs h k = ap (λ m. drop m (ys ++ zs)) (let same : 0 + i ≡ i = omega arith in same) ∙ drop-append-le i ys zs k
drop_behind (suc n) i [] ys zs h k = absurd (omega arith)
drop_behind zero i (x ∷ xs) ys zs h k = absurd (omega arith)
drop_behind (suc n) i (x ∷ xs) ys zs h k =
    ap (λ m. drop m (x ∷ (xs ++ (ys ++ zs)))) (let same : suc n + i ≡ suc (n + i) = omega arith in same)
    ∙ drop_behind n i xs ys zs (omega arith) k

get_behind : {A : Type 0} (n i : ℕ) (xs ys zs : List A) (d : A) → length xs ≡ n → i < length ys → slice_index_or (xs ++ (ys ++ zs)) (n + i) d ≡ slice_index_or ys i d
get_behind zero i [] ys zs d h k = ap (λ m. slice_index_or (ys ++ zs) m d) (let same : 0 + i ≡ i = omega arith in same) ∙ get_or_append_left ys zs d i k
get_behind (suc n) i [] ys zs d h k = absurd (omega arith)
get_behind zero i (x ∷ xs) ys zs d h k = absurd (omega arith)
get_behind (suc n) i (x ∷ xs) ys zs d h k =
    ap (λ m. slice_index_or (x ∷ (xs ++ (ys ++ zs))) m d) (let same : suc n + i ≡ suc (n + i) = omega arith in same)
    ∙ get_behind n i xs ys zs d (omega arith) k

-- What is around a run.
module _ (front base len : ℕ) (rs : List Run) (ss : List ℕ) (before : List Run) (r : Run) (after : List Run) (here : Around front base len rs ss before r after) where
  enough : width r ≤ length (drop (widths before) ss)
  enough = let long = length-drop (widths before) ss in let all = here.starts in omega (arith, long, all)

  pub places_long : length (places_of r (drop (widths before) ss)) ≡ total r
  places_long = length-places r (drop (widths before) ss) enough

  before_long : length (expand before ss) ≡ counts before
  before_long = length-expand before ss (let all = here.starts in omega (arith, all))

  -- the place of an entry in it
  pub place_is : (i : ℕ) (d : Place) → i < total r → slice_index_or (expand rs ss) (counts before + i) d ≡ slice_index_or (places_of r (drop (widths before) ss)) i d
  place_is i d h =
      ap (λ l. slice_index_or l (counts before + i) d) (expand_around rs ss before r after here.split)
      ∙ get_behind (counts before) i (expand before ss) (places_of r (drop (widths before) ss)) (expand after (drop (widths before + width r) ss)) d before_long
      (let long = places_long in omega (arith, long, h))

  -- so many places from one of them on
  pub part_is : (i c : ℕ) → i + c ≤ total r → take c (drop (counts before + i) (expand rs ss)) ≡ take c (drop i (places_of r (drop (widths before) ss)))
  part_is i c h =
      let here_are = places_of r (drop (widths before) ss) in
      let behind = expand after (drop (widths before + width r) ss) in
      let long = places_long in
      let rest = length-drop i here_are in
      ap (λ l. take c (drop (counts before + i) l)) (expand_around rs ss before r after here.split)
      ∙ ap (take c) (drop_behind (counts before) i (expand before ss) here_are behind before_long (omega (arith, long, h)))
      ∙ take-append-le c (drop i here_are) behind (omega (arith, rest, long, h))

  -- the runs before it and so many of its entries
  pub back_cut : (i : ℕ) (d : Place) → i < total r
      → expand (before ++ (head r (suc i) (slice_index_or (places_of r (drop (widths before) ss)) i d).entry_len ∷ [])) (take (widths before + span r (suc i)) ss)
      ≡ take (counts before + suc i) (expand rs ss)
  back_cut i d h =
      let few = span_le r (suc i) (omega (arith, h)) in
      let all = here.starts in
      let starts = drop (widths before) ss in
      let z = (slice_index_or (places_of r starts) i d).entry_len in
      let wide = width-head r (suc i) z (omega (arith, h)) in
      let n = widths before + span r (suc i) in
      let rest = length-drop (widths before) ss in
      expand-append before (head r (suc i) z ∷ []) (take n ss)
      ∙ ap₂ ◌++◌ (expand-take before n ss (omega arith) (omega (arith, few, all)))
      (append-nil (places_of (head r (suc i) z) (drop (widths before) (take n ss)))
      ∙ ap (places_of (head r (suc i) z)) (drop-take (widths before) (span r (suc i)) ss)
      ∙ places-take (head r (suc i) z) (span r (suc i)) starts (omega (arith, wide)) (omega (arith, few, all, rest))
      ∙ sym (take-places r starts enough i d h))
      ∙ sym (ap (take (counts before + suc i)) (expand_around rs ss before r after here.split)
      ∙ take_behind (counts before) (suc i) (expand before ss) (places_of r starts) (expand after (drop (widths before + width r) ss)) before_long
      (let long = places_long in omega (arith, long, h)))

  pub back_sound : (i : ℕ) (d : Place) → i < total r → front + len < 2 ^ 64 → base + length ss < 2 ^ 64
      → IsSound front base (counts before + suc i)
      (before ++ (head r (suc i) (slice_index_or (places_of r (drop (widths before) ss)) i d).entry_len ∷ [])) (take (widths before + span r (suc i)) ss)
  back_sound i d h fits starts_fit =
      let few = span_le r (suc i) (omega (arith, h)) in
      let all = here.starts in
      let count = here.count in
      let z = (slice_index_or (places_of r (drop (widths before) ss)) i d).entry_len in
      let h_run = head r (suc i) z in
      let one = total-head r (suc i) z (omega (arith, h)) in
      let wide = width-head r (suc i) z (omega (arith, h)) in
      let same = first-head r (suc i) z in
      let long = length-take-le (widths before + span r (suc i)) ss (omega (arith, few, all)) in
      record {
        numbered = numbered_both front base r.first r.at before (h_run ∷ []) here.first here.at here.left
            (same.0, same.1, omega (arith, one), head_fit r (drop (widths before) ss) i d enough here.fits, tt);
        count = counts-append before (h_run ∷ []) ∙ omega (arith, one);
        starts_are = widths-append before (h_run ∷ []) ∙ omega (arith, wide, long);
        fits = omega (arith, fits, count, h);
        starts_fit = omega (arith, starts_fit, long, few, all);
      }

  -- the run but for so many of its first entries, and the runs behind it
  pub front_cut : (i : ℕ) (d : Place) → i < total r
      → expand (tail r i (slice_index_or (places_of r (drop (widths before) ss)) i d).entry_offset ∷ after) (drop (widths before + span r i) ss)
      ≡ drop (counts before + i) (expand rs ss)
  front_cut i d h =
      let starts = drop (widths before) ss in
      let o = (slice_index_or (places_of r starts) i d).entry_offset in
      let t = tail r i o in
      let parts = width-tail r i o (omega (arith, h)) in
      let all : widths before + span r i + width t ≡ widths before + width r = omega (arith, parts) in
      ap₂ ◌++◌
      (ap (places_of t) (sym (drop-drop (span r i) (widths before) ss)) ∙ sym (drop-places r starts enough i d h))
      (ap (expand after) (drop-drop (width t) (widths before + span r i) ss ∙ ap (λ n. drop n ss) all))
      ∙ sym (ap (drop (counts before + i)) (expand_around rs ss before r after here.split)
      ∙ drop_behind (counts before) i (expand before ss) (places_of r starts) (expand after (drop (widths before + width r) ss)) before_long
      (let long = places_long in omega (arith, long, h)))

  pub front_sound : (i : ℕ) (d : Place) → i < total r → front + len < 2 ^ 64 → base + length ss < 2 ^ 64
      → IsSound (front + (counts before + i)) (base + (widths before + span r i)) (len - (counts before + i))
      (tail r i (slice_index_or (places_of r (drop (widths before) ss)) i d).entry_offset ∷ after) (drop (widths before + span r i) ss)
  front_sound i d h fits starts_fit =
      let o = (slice_index_or (places_of r (drop (widths before) ss)) i d).entry_offset in
      let t = tail r i o in
      let parts = width-tail r i o (omega (arith, h)) in
      let left = total-tail r i (total r - i) o (omega (arith, h)) in
      let same = first-tail r i o in
      let begins = same.0 in
      let at_is = same.1 in
      let first = here.first in
      let at = here.at in
      let all = here.starts in
      let count = here.count in
      let rest = length-drop (widths before + span r i) ss in
      record {
        numbered = (
          omega (arith, begins, first),
          omega (arith, at_is, at),
          omega (arith, left, h),
          tail_fit r (drop (widths before) ss) i d enough here.fits,
          subst₂ (λ x y. IsNumbered x y after) (let same : r.first + total r ≡ front + (counts before + i) + total t = omega (arith, first, left, h) in same)
              (let same : r.at + width r ≡ base + (widths before + span r i) + width t = omega (arith, at, parts) in same) here.right,
        );
        count = omega (arith, count, left, h);
        starts_are = omega (arith, all, parts, rest);
        fits = omega (arith, fits, count, h);
        starts_fit = omega (arith, starts_fit, all, parts, rest);
      }

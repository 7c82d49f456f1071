-- Lists of runs that are joined, split and numbered anew.
use Rattle.std.proofs.Common.{◌≡◌, ℕ, suc, ◌+◌, ◌-◌, ◌*◌, ◌<◌, ◌≤◌, ◌^◌, List, [], ◌∷◌, ◌++◌, length, take, drop, slice_index_or, refl, sym, ap, ap₂, subst, subst₂, ◌∙◌, arith, append_assoc, append-nil, length-append, length-take-le, take-append-drop, take_all}
use Rattle.std.proofs.lemmas.List.{drop_at, take_at, take_more}
use Rattle.raft_log_extents.specs.declared.place.Place.{Place}
use Rattle.raft_log_extents.specs.declared.run.Run.{Run}
use Rattle.raft_log_extents.specs.declared.spot.Spot.{Spot}
use Rattle.raft_log_extents.specs.Runs.{IsSound, StartsFit, counts, expand, head, places_of, renumbered, span, tail, total, width, widths}
use Rattle.raft_log_extents.specs.Spots.{IsSpot}
use Rattle.raft_log_extents.proofs.RunLists.{around, back_cut, back_sound, counts-append, counts-renumbered, expand-append, expand-renumbered, expand-take, front_cut, front_sound, joined, length-expand, length_le, numbered_both, renumbered_is, whole, widths-append, widths-renumbered, widths_le}
use Rattle.raft_log_extents.proofs.RunParts.{span_le}
use Rattle.raft_log_extents.proofs.RunSpots.{here, same_starts, split_there}

-- Joined.
pub joined_sound : (front base l f b n : ℕ) (rs qs : List Run) (ss ts : List ℕ) → IsSound front base l rs ss → IsSound f b n qs ts → f ≡ front + l → b ≡ base + length ss
    → front + (l + n) < 2 ^ 64 → IsSound front base (l + n) (rs ++ qs) (ss ++ ts)
joined_sound front base l f b n rs qs ss ts s t e h fits =
    let count = s.count in
    let starts = s.starts_are in
    record {
      numbered = numbered_both front base f b rs qs (omega (arith, e, count)) (omega (arith, h, starts)) s.numbered t.numbered;
      count = counts-append rs qs ∙ ap₂ ◌+◌ s.count t.count;
      starts_are = widths-append rs qs ∙ ap₂ ◌+◌ s.starts_are t.starts_are ∙ sym (length-append ss ts);
      fits = fits;
      starts_fit = let both = length-append ss ts in let last = t.starts_fit in omega (arith, both, last, h);
    }

-- a run more
pub pushed : (front base l c : ℕ) (rs : List Run) (ss ts : List ℕ) (r : Run) (ps : List Place) (new : List Run) (left : List ℕ) → IsSound front base l rs ss
    → r.first ≡ front + l → r.at ≡ base + length ss → total r ≡ c → 0 < c → StartsFit r.even r → places_of r ts ≡ ps → width r ≡ length ts
    → front + (l + c) < 2 ^ 64 → base + (length ss + length ts) < 2 ^ 64 → new ≡ rs ++ (r ∷ []) → left ≡ ss ++ ts
    → (expand new left ≡ expand rs ss ++ ps) × IsSound front base (l + c) new left
pushed front base l c rs ss ts r ps new left s first at count some fits are wide last room runs starts =
    let all = s.count in
    let were = s.starts_are in
    subst₂ (λ a b. (expand a b ≡ expand rs ss ++ ps) × IsSound front base (l + c) a b) (sym runs) (sym starts) (
      joined rs (r ∷ []) ss ts s.starts_are ∙ ap (λ l. expand rs ss ++ l) (append-nil (places_of r ts) ∙ are),
      record {
        numbered = numbered_both front base r.first r.at rs (r ∷ []) (omega (arith, first, all)) (omega (arith, at, were)) s.numbered (refl, refl, omega (arith, count, some), fits, tt);
        count = counts-append rs (r ∷ []) ∙ omega (arith, all, count);
        starts_are = widths-append rs (r ∷ []) ∙ (let parts = length-append ss ts in omega (arith, were, wide, parts));
        fits = last;
        starts_fit = let parts = length-append ss ts in omega (arith, parts, room);
      },
    )

-- Runs of another list, numbered on.
pub renumbered-push : (n m : ℕ) (rs : List Run) (r : Run) → renumbered n m (rs ++ (r ∷ [])) ≡ renumbered n m rs ++ (record r { first = n + counts rs; at = m + widths rs } ∷ [])
renumbered-push n m [] r = ap₂ (λ a b. record r { first = a; at = b } ∷ []) (let same : n ≡ n + 0 = omega arith in same) (let same : m ≡ m + 0 = omega arith in same)
renumbered-push n m (q ∷ rs) r =
    ap (λ l. record q { first = n; at = m } ∷ l)
    (renumbered-push (n + total q) (m + width q) rs r
    ∙ ap₂ (λ a b. renumbered (n + total q) (m + width q) rs ++ (record r { first = a; at = b } ∷ []))
    (let same : n + total q + counts rs ≡ n + (total q + counts rs) = omega arith in same)
    (let same : m + width q + widths rs ≡ m + (width q + widths rs) = omega arith in same))

pub counts_more : (rs : List Run) (i : ℕ) (r : Run) → i < length rs → r ≡ slice_index_or rs i r → counts (take (i + 1) rs) ≡ counts (take i rs) + total r
counts_more rs i r h e =
    ap counts (take_more rs i r h) ∙ counts-append (take i rs) (slice_index_or rs i r ∷ [])
    ∙ (let same : total (slice_index_or rs i r) ≡ total r = ap (λ (x : Run). total x) (sym e) in omega (arith, same))

pub widths_more : (rs : List Run) (i : ℕ) (r : Run) → i < length rs → r ≡ slice_index_or rs i r → widths (take (i + 1) rs) ≡ widths (take i rs) + width r
widths_more rs i r h e =
    ap widths (take_more rs i r h) ∙ widths-append (take i rs) (slice_index_or rs i r ∷ [])
    ∙ (let same : width (slice_index_or rs i r) ≡ width r = ap width (sym e) in omega (arith, same))

pub renumbered_more : (n m : ℕ) (rs : List Run) (i : ℕ) (r : Run) → i < length rs → r ≡ slice_index_or rs i r
    → renumbered n m (take (i + 1) rs) ≡ renumbered n m (take i rs) ++ (record r { first = n + counts (take i rs); at = m + widths (take i rs) } ∷ [])
renumbered_more n m rs i r h e =
    ap (renumbered n m) (take_more rs i r h ∙ ap (λ x. take i rs ++ (x ∷ [])) (sym e)) ∙ renumbered-push n m (take i rs) r

pub counts_take : (rs : List Run) (i : ℕ) → counts (take i rs) ≤ counts rs
counts_take rs i = let parts = ap counts (take-append-drop i rs) in let sum = counts-append (take i rs) (drop i rs) in omega (arith, parts, sum)

pub widths_take : (rs : List Run) (i : ℕ) → widths (take i rs) ≤ widths rs
widths_take rs i = let parts = ap widths (take-append-drop i rs) in let sum = widths-append (take i rs) (drop i rs) in omega (arith, parts, sum)

-- the whole list under new numbers
pub renumbered_sound : (f b front base l : ℕ) (rs : List Run) (ss : List ℕ) → IsSound f b l rs ss → front + l < 2 ^ 64 → base + length ss < 2 ^ 64
    → IsSound front base l (renumbered front base rs) ss
renumbered_sound f b front base l rs ss s fits room = record {
  numbered = renumbered_is front base rs (whole f b rs s.numbered);
  count = counts-renumbered front base rs ∙ s.count;
  starts_are = widths-renumbered front base rs ∙ s.starts_are;
  fits = fits;
  starts_fit = room;
}

-- Cut at a border of runs.
module _ (front base len : ℕ) (rs : List Run) (ss : List ℕ) (sound : IsSound front base len rs ss) (k : ℕ) where
  pub parts : widths (take k rs) + widths (drop k rs) ≡ length ss
  parts = sym (widths-append (take k rs) (drop k rs)) ∙ ap widths (take-append-drop k rs) ∙ sound.starts_are

  pub front_of : expand (take k rs) (take (widths (take k rs)) ss) ≡ take (counts (take k rs)) (expand rs ss)
  front_of =
      let all = parts in
      expand-take (take k rs) (widths (take k rs)) ss (omega arith) (omega (arith, all))
      ∙ sym (ap (λ l. take (counts (take k rs)) (expand l ss)) (sym (take-append-drop k rs))
      ∙ ap (take (counts (take k rs))) (expand-append (take k rs) (drop k rs) ss)
      ∙ take_at (expand (take k rs) ss) (expand (drop k rs) (drop (widths (take k rs)) ss)) (counts (take k rs)) (length-expand (take k rs) ss (omega (arith, all))))

  pub back_of : expand (drop k rs) (drop (widths (take k rs)) ss) ≡ drop (counts (take k rs)) (expand rs ss)
  back_of =
      let all = parts in
      sym (ap (λ l. drop (counts (take k rs)) (expand l ss)) (sym (take-append-drop k rs))
      ∙ ap (drop (counts (take k rs))) (expand-append (take k rs) (drop k rs) ss)
      ∙ drop_at (expand (take k rs) ss) (expand (drop k rs) (drop (widths (take k rs)) ss)) (counts (take k rs)) (length-expand (take k rs) ss (omega (arith, all))))

  -- where the starts of a run begin, and where they end
  pub starts_before : (r : Run) → k < length rs → r ≡ slice_index_or rs k r → r.at - base ≡ widths (take k rs)
  starts_before r h e =
      let at = (around front base len rs ss (take k rs) r (drop (k + 1) rs) sound (split_there rs k r h e)).at in
      omega (arith, at)

  pub base_at : (r : Run) → k < length rs → r ≡ slice_index_or rs k r → base ≤ r.at
  base_at r h e =
      let at = (around front base len rs ss (take k rs) r (drop (k + 1) rs) sound (split_there rs k r h e)).at in
      omega (arith, at)

  pub all_starts : length rs ≤ k → length ss ≡ widths (take k rs)
  all_starts h = sym sound.starts_are ∙ ap widths (sym (take_all k rs h))

  pub all_entries : length rs ≤ k → counts (take k rs) ≡ len
  all_entries h = ap counts (take_all k rs h) ∙ sound.count

-- A run that is cut in two.
module _ (front base len position : ℕ) (rs : List Run) (ss : List ℕ) (s : Spot) (sound : IsSound front base len rs ss) (spot : IsSpot rs ss position s) where
  pub split_apart : (p q : Place) (h t : Run) (new : List Run) → 0 < s.within → p ≡ slice_index_or (places_of s.run (drop s.from ss)) (s.within - 1) p
      → q ≡ slice_index_or (places_of s.run (drop s.from ss)) s.within q → h ≡ head s.run s.within p.entry_len
      → t ≡ tail s.run s.within q.entry_offset → new ≡ take s.at rs ++ (h ∷ (t ∷ drop (s.at + 1) rs))
      → (expand new ss ≡ expand rs ss) × IsSound front base len new ss × (counts (take (s.at + 1) new) ≡ position)
  split_apart p q h t new some p_is q_is head_is tail_is runs =
      let before = take s.at rs in
      let after = drop (s.at + 1) rs in
      let i = s.within - 1 in
      let one : s.within ≡ suc i = omega (arith, some) in
      let low = spot.within in
      let there = spot.within_is in
      let at = spot.there in
      let around_is = here front base len position rs ss s sound spot in
      let h_run = head s.run (suc i) (slice_index_or (places_of s.run (drop (widths before) ss)) i p).entry_len in
      let t_run = tail s.run s.within (slice_index_or (places_of s.run (drop (widths before) ss)) s.within q).entry_offset in
      let h_is : h ≡ h_run = head_is ∙ ap₂ (λ n z. head s.run n z) one (ap (λ x. x.entry_len) (p_is ∙ same_starts front base len position rs ss s sound spot i p)) in
      let t_is : t ≡ t_run = tail_is ∙ ap (λ o. tail s.run s.within o) (ap (λ x. x.entry_offset) (q_is ∙ same_starts front base len position rs ss s sound spot s.within q)) in
      let n = widths before + span s.run s.within in
      let same_n : widths before + span s.run (suc i) ≡ n = ap (λ m. widths before + span s.run m) (sym one) in
      let same_c : counts before + suc i ≡ counts before + s.within = omega (arith, one) in
      let front_half = subst (λ m. expand (before ++ (h_run ∷ [])) (take m ss) ≡ take (counts before + suc i) (expand rs ss)) same_n (back_cut front base len rs ss before s.run after around_is i p (omega (arith, low, some))) in
      let front_sound_is = subst (λ m. IsSound front base (counts before + suc i) (before ++ (h_run ∷ [])) (take m ss)) same_n (back_sound front base len rs ss before s.run after around_is i p (omega (arith, low, some)) sound.fits sound.starts_fit) in
      let back_half = front_cut front base len rs ss before s.run after around_is s.within q low in
      let back_sound_is = front_sound front base len rs ss before s.run after around_is s.within q low sound.fits sound.starts_fit in
      let list : (before ++ (h_run ∷ [])) ++ (t_run ∷ after) ≡ new =
      append_assoc before (h_run ∷ []) (t_run ∷ after) ∙ ap₂ (λ x y. before ++ (x ∷ (y ∷ after))) (sym h_is) (sym t_is) ∙ sym runs in
      let starts : take n ss ++ drop n ss ≡ ss = take-append-drop n ss in
      let all = around_is.count in
      let fits = sound.fits in
      let few = span_le s.run s.within (omega (arith, low)) in
      let starts_all = around_is.starts in
      let long : length (take n ss) ≡ n = length-take-le n ss (omega (arith, few, starts_all)) in
      let sum : counts before + suc i + (len - (counts before + s.within)) ≡ len = omega (arith, all, low, one) in (
        ap (λ l. expand l ss) (sym list) ∙ ap (expand ((before ++ (h_run ∷ [])) ++ (t_run ∷ after))) (sym starts)
            ∙ joined (before ++ (h_run ∷ [])) (t_run ∷ after) (take n ss) (drop n ss) front_sound_is.starts_are
            ∙ ap₂ ◌++◌ (front_half ∙ ap (λ m. take m (expand rs ss)) same_c) back_half ∙ take-append-drop (counts before + s.within) (expand rs ss),
        subst₂ (λ a b. IsSound front base len a b) list starts
            (subst (λ m. IsSound front base m ((before ++ (h_run ∷ [])) ++ (t_run ∷ after)) (take n ss ++ drop n ss)) sum
            (joined_sound front base (counts before + suc i) (front + (counts before + s.within)) (base + n) (len - (counts before + s.within)) (before ++ (h_run ∷ [])) (t_run ∷ after) (take n ss) (drop n ss)
            front_sound_is back_sound_is (omega (arith, one)) (omega (arith, long)) (omega (arith, sum, fits)))),
        ap counts (ap (take (s.at + 1)) (sym list) ∙ take_at (before ++ (h_run ∷ [])) (t_run ∷ after) (s.at + 1) (length-append before (h_run ∷ []) ∙ (let long = length-take-le s.at rs (omega (arith, at)) in omega (arith, long))))
            ∙ front_sound_is.count ∙ omega (arith, same_c, there),
      )

-- How much a sound list has.
pub runs_few : (front base len : ℕ) (rs : List Run) (ss : List ℕ) → IsSound front base len rs ss
    → (length (expand rs ss) ≡ len) × (length rs ≤ len) × (length ss ≤ len * 8) × (base + length ss < 2 ^ 64)
runs_few front base len rs ss s =
    let starts = s.starts_are in
    let count = s.count in
    let long = length-expand rs ss (omega (arith, starts)) in
    let few = length_le rs (whole front base rs s.numbered) in
    let less = widths_le rs in
    (omega (arith, long, count), omega (arith, few, count), omega (arith, less, count, starts), s.starts_fit)

-- the runs of another list, numbered on
pub appended : (front base l f b n first at : ℕ) (rs more : List Run) (ss ts : List ℕ) (new : List Run) (left : List ℕ) → IsSound front base l rs ss → IsSound f b n more ts
    → first ≡ front + l → at ≡ base + length ss → front + (l + n) < 2 ^ 64 → at + length ts < 2 ^ 64 → new ≡ rs ++ renumbered first at more → left ≡ ss ++ ts
    → (expand new left ≡ expand rs ss ++ expand more ts) × IsSound front base (l + n) new left
appended front base l f b n first at rs more ss ts new left s t e h fits room runs starts =
    subst₂ (λ x y. (expand x y ≡ expand rs ss ++ expand more ts) × IsSound front base (l + n) x y) (sym runs) (sym starts) (
      joined rs (renumbered first at more) ss ts s.starts_are ∙ ap (λ l. expand rs ss ++ l) (expand-renumbered first at more ts),
      joined_sound front base l first at n rs (renumbered first at more) ss ts s
          (renumbered_sound f b first at n more ts t (omega (arith, e, fits)) room) e h fits,
    )

-- Where an entry is in a list of runs, and what becomes of a list that is cut there.
use Rattle.std.proofs.Common.{◌≡◌, ℕ, zero, suc, ◌+◌, ◌-◌, ◌*◌, ◌<◌, ◌≤◌, ◌^◌, Bool, true, false, List, [], ◌∷◌, ◌++◌, length, take, drop, slice_index_or, refl, sym, ap, ap₂, subst, subst₂, ◌∙◌, nat_le, arith, get_or-drop, get_or-take, length-append, length-drop, length-take-le, take-append-drop, take-take, take_all, drop-drop}
use Rattle.std.proofs.lemmas.List.{get_or_default, take-append-le, take_more}
use Rattle.raft_log_model_laws.proofs.Public.{at_bool, from_le_false, from_le_true}
use Rattle.raft_log_extents.specs.Blocks.{in_block}
use Rattle.raft_log_extents.proofs.RunPlaces.{get-laid_even, get-uneven, get-uneven_last}
use Rattle.raft_log_extents.specs.declared.place.Place.{Place}
use Rattle.raft_log_extents.specs.declared.run.Run.{Run}
use Rattle.raft_log_extents.specs.declared.spot.Spot.{Spot}
use Rattle.raft_log_extents.specs.Runs.{IsFound, IsNumbered, IsSound, StartsFit, block, counts, expand, head, laid, places_of, span, tail, total, width, width_of, widths}
use Rattle.raft_log_extents.specs.Spots.{IsSpot}
use Rattle.raft_log_extents.specs.Words.{place_from}
use Rattle.raft_log_extents.proofs.Replacing.{drop_at}
use Rattle.raft_log_extents.proofs.RunLists.{AreWhole, Around, around, back_cut, back_sound, counts-append, front_cut, front_sound, place_is, whole}
use Rattle.raft_log_extents.proofs.RunParts.{first-tail, get-apart, get-placed, span_le, width-head}

-- A list of runs that isn't empty.
pub some_runs : (front base len : ℕ) (rs : List Run) (ss : List ℕ) → IsSound front base len rs ss → 0 < len → 0 < length rs
some_runs front base len [] ss s h = let none = s.count in absurd (omega (arith, none, h))
some_runs front base len (r ∷ rs) ss s h = omega arith

pub first_low : (front base len number : ℕ) (rs : List Run) (ss : List ℕ) → IsSound front base len rs ss → 0 < len → front ≤ number
    → (d : Run) → (slice_index_or rs 0 d).first ≤ number
first_low front base len number [] ss s h k d = let none = s.count in absurd (omega (arith, none, h))
first_low front base len number (r ∷ rs) ss s h k d = let first = s.numbered.0 in omega (arith, first, k)

pub fits_each : (e : Bool) (r : Run) → StartsFit e r → e ≡ true → (j : ℕ) → j < r.count → r.start + j * r.size < 2 ^ 32
fits_each true r f h = f
fits_each false r f h = λ j k. absurd (let clash : false ≡ true = h in let never : ⊥ = cc in never)

pub split_there : (rs : List Run) (k : ℕ) (r : Run) → k < length rs → r ≡ slice_index_or rs k r → rs ≡ take k rs ++ (r ∷ drop (k + 1) rs)
split_there rs k r h e =
    sym (take-append-drop k rs) ∙ ap (λ l. take k rs ++ l) (drop_at k rs r h ∙ ap (λ x. x ∷ drop (k + 1) rs) (sym e))

first_of_next : (n m : ℕ) (qs : List Run) (d : Run) → IsNumbered n m qs → 0 < length qs → (slice_index_or qs 0 d).first ≡ n
first_of_next n m [] d h k = absurd (omega arith)
first_of_next n m (q ∷ qs) d h k = h.0

pub below_end : (front base len number k : ℕ) (rs : List Run) (ss : List ℕ) (r : Run) → Around front base len rs ss (take k rs) r (drop (k + 1) rs)
    → IsFound number rs k → number < front + len → number < r.first + total r
below_end front base len number k rs ss r here found h = by (drop (k + 1) rs) refl
  where
    by : (after : List Run) → drop (k + 1) rs ≡ after → number < r.first + total r
    by [] e =
        let none : counts (drop (k + 1) rs) ≡ 0 = ap counts e in
        let first = here.first in
        let all = here.count in omega (arith, none, first, all, h)
    by (q ∷ after) e =
        let long : length rs - (k + 1) ≡ suc (length after) = sym (length-drop (k + 1) rs) ∙ ap length e in
        let high = found.high r (omega (arith, long)) in
        let same = first_of_next (r.first + total r) (r.at + width r) (drop (k + 1) rs) r here.right (let more : length (drop (k + 1) rs) ≡ suc (length after) = ap length e in omega (arith, more)) in
        let there = ap (λ (x : Run). x.first) (get_or-drop (k + 1) rs 0 r ∙ ap (λ n. slice_index_or rs n r) (let zero : k + 1 + 0 ≡ k + 1 = omega arith in zero)) in
        omega (arith, high, same, there)

-- the entry of a number that was found
pub spot_is : (front base len position number : ℕ) (rs : List Run) (ss : List ℕ) (s : Spot) → IsSound front base len rs ss → number ≡ front + position → position < len
    → IsFound number rs s.at → s.run ≡ slice_index_or rs s.at s.run → s.from ≡ s.run.at - base → s.within ≡ number - s.run.first → IsSpot rs ss position s
spot_is front base len position number rs ss s sound e h found is from within =
    let here = around front base len rs ss (take s.at rs) s.run (drop (s.at + 1) rs) sound (split_there rs s.at s.run found.within is) in
    let low = found.low s.run in
    let first = here.first in
    let at = here.at in
    let all = here.starts in
    let high = below_end front base len number s.at rs ss s.run here found (omega (arith, e, h)) in
    let lower : s.run.first ≤ number = subst (λ (x : Run). x.first ≤ number) (sym is) low in
    record {
      there = found.within;
      run_is = is;
      from_is = omega (arith, from, at);
      within_is = omega (arith, within, first, lower, e);
      within = omega (arith, within, high, lower);
      enough = omega (arith, from, at, all);
      fits = fits_each s.run.even s.run here.fits;
    }

module _ (front base len position : ℕ) (rs : List Run) (ss : List ℕ) (s : Spot) (sound : IsSound front base len rs ss) (spot : IsSpot rs ss position s) where
  pub here : Around front base len rs ss (take s.at rs) s.run (drop (s.at + 1) rs)
  here = around front base len rs ss (take s.at rs) s.run (drop (s.at + 1) rs) sound (split_there rs s.at s.run spot.there spot.run_is)

  pub same_starts : (i : ℕ) (d : Place) → slice_index_or (places_of s.run (drop s.from ss)) i d ≡ slice_index_or (places_of s.run (drop (widths (take s.at rs)) ss)) i d
  same_starts i d = ap (λ n. slice_index_or (places_of s.run (drop n ss)) i d) spot.from_is

  -- the place of the entry there
  pub at_is : (p : Place) → p ≡ slice_index_or (places_of s.run (drop s.from ss)) s.within p → p ≡ slice_index_or (expand rs ss) position p
  at_is p e =
      e ∙ same_starts s.within p ∙ sym (place_is front base len rs ss (take s.at rs) s.run (drop (s.at + 1) rs) here s.within p spot.within)
      ∙ ap (λ n. slice_index_or (expand rs ss) n p) spot.within_is

  -- the entries up to it
  pub truncated : (count : ℕ) (p : Place) (h : Run) (new : List Run) (left : List ℕ) → position ≡ count - 1 → 0 < count → p ≡ slice_index_or (places_of s.run (drop s.from ss)) s.within p
      → h ≡ head s.run (s.within + 1) p.entry_len → new ≡ take s.at rs ++ (h ∷ []) → left ≡ take (s.from + width h) ss
      → (expand new left ≡ take count (expand rs ss)) × IsSound front base count new left
  truncated count p h new left last some is cut runs starts =
      let before = take s.at rs in
      let size = (slice_index_or (places_of s.run (drop (widths before) ss)) s.within p).entry_len in
      let one : s.within + 1 ≡ suc s.within = omega arith in
      let whole : h ≡ head s.run (suc s.within) size = cut ∙ ap₂ (λ n z. head s.run n z) one (ap (λ q. q.entry_len) (is ∙ same_starts s.within p)) in
      let all : counts before + suc s.within ≡ count = (let there = spot.within_is in omega (arith, there, last, some)) in
      let low = spot.within in
      let same_width = width-head s.run (suc s.within) size (omega (arith, low)) in
      let from = spot.from_is in
      let wide : s.from + width h ≡ widths before + span s.run (suc s.within) = (let w = ap (λ (x : Run). width x) whole in omega (arith, w, same_width, from)) in
      let runs_are : before ++ (head s.run (suc s.within) size ∷ []) ≡ new = ap (λ x. before ++ (x ∷ [])) (sym whole) ∙ sym runs in
      let starts_are : take (widths before + span s.run (suc s.within)) ss ≡ left = ap (λ n. take n ss) (sym wide) ∙ sym starts in
      subst₂ (λ a b. (expand a b ≡ take count (expand rs ss)) × IsSound front base count a b) runs_are starts_are (
        back_cut front base len rs ss before s.run (drop (s.at + 1) rs) here s.within p spot.within ∙ ap (λ n. take n (expand rs ss)) all,
        subst (λ n. IsSound front base n (before ++ (head s.run (suc s.within) size ∷ [])) (take (widths before + span s.run (suc s.within)) ss)) all
            (back_sound front base len rs ss before s.run (drop (s.at + 1) rs) here s.within p spot.within sound.fits sound.starts_fit),
      )

  -- the entries from it on
  pub dropped : (p : Place) (t : Run) (new : List Run) (left : List ℕ) → p ≡ slice_index_or (places_of s.run (drop s.from ss)) s.within p
      → t ≡ tail s.run s.within p.entry_offset → new ≡ t ∷ drop (s.at + 1) rs → left ≡ drop (t.at - base) ss
      → (expand new left ≡ drop position (expand rs ss)) × IsSound (front + position) (base + (t.at - base)) (len - position) new left
  dropped p t new left is cut runs starts =
      let before = take s.at rs in
      let after = drop (s.at + 1) rs in
      let offset = (slice_index_or (places_of s.run (drop (widths before) ss)) s.within p).entry_offset in
      let whole : t ≡ tail s.run s.within offset = cut ∙ ap (λ o. tail s.run s.within o) (ap (λ q. q.entry_offset) (is ∙ same_starts s.within p)) in
      let low = spot.within in
      let begins = (first-tail s.run s.within offset).1 in
      let gone : widths before + span s.run s.within ≡ t.at - base = (let same = ap (λ (x : Run). x.at) whole in let at = here.at in omega (arith, same, at, begins)) in
      let runs_are : tail s.run s.within offset ∷ after ≡ new = ap (λ x. x ∷ after) (sym whole) ∙ sym runs in
      let starts_are : drop (widths before + span s.run s.within) ss ≡ left = ap (λ n. drop n ss) gone ∙ sym starts in
      subst₂ (λ a b. (expand a b ≡ drop position (expand rs ss)) × IsSound (front + position) (base + (t.at - base)) (len - position) a b) runs_are starts_are (
        front_cut front base len rs ss before s.run after here s.within p low ∙ ap (λ n. drop n (expand rs ss)) spot.within_is,
        subst₂ (λ n m. IsSound (front + n) (base + m) (len - n) (tail s.run s.within offset ∷ after) (drop (widths before + span s.run s.within) ss)) spot.within_is gone
            (front_sound front base len rs ss before s.run after here s.within p low sound.fits sound.starts_fit),
      )

-- a run's starts come behind the first of all
pub base_le : (front base len number k : ℕ) (rs : List Run) (ss : List ℕ) (r : Run) → IsSound front base len rs ss → IsFound number rs k → r ≡ slice_index_or rs k r → base ≤ r.at
base_le front base len number k rs ss r sound found is =
    let at = (around front base len rs ss (take k rs) r (drop (k + 1) rs) sound (split_there rs k r found.within is)).at in omega (arith, at)

pub first_le : (number k : ℕ) (rs : List Run) (r : Run) → IsFound number rs k → r ≡ slice_index_or rs k r → r.first ≤ number
first_le number k rs r found is = let low = found.low r in subst (λ (x : Run). x.first ≤ number) (sym is) low

-- more runs have more entries
pub rise : (a b : ℕ) (rs : List Run) → AreWhole rs → a ≤ b → b ≤ length rs → counts (take a rs) + (b - a) ≤ counts (take b rs)
rise zero zero rs w h k = omega arith
rise (suc a) zero rs w h k = absurd (omega arith)
rise zero (suc b) [] w h k = absurd (omega arith)
rise zero (suc b) (r ∷ rs) w h k = let some = w.0 in let rest = rise zero b rs w.2 (omega arith) (omega arith) in omega (arith, some, rest)
rise (suc a) (suc b) [] w h k = absurd (omega arith)
rise (suc a) (suc b) (r ∷ rs) w h k = let rest = rise a b rs w.2 (omega arith) (omega arith) in omega (arith, rest)

-- runs that end at or before the last entry that stays
pub ends_kept : (front base len position count k : ℕ) (rs : List Run) (ss : List ℕ) (s : Spot) (h : Run) (new : List Run) → IsSound front base len rs ss → IsSpot rs ss position s
    → position ≡ count - 1 → 0 < count → total h ≡ s.within + 1 → new ≡ take s.at rs ++ (h ∷ []) → k ≤ length rs → counts (take k rs) ≤ count
    → (k ≤ length new) × (counts (take k new) ≡ counts (take k rs))
ends_kept front base len position count k rs ss s h new sound spot last some is runs low few =
    let there = spot.there in
    let front_long = length-take-le s.at rs (omega (arith, there)) in
    let long : length new ≡ s.at + 1 = ap length runs ∙ length-append (take s.at rs) (h ∷ []) ∙ omega (arith, front_long) in
    let inside = spot.within_is in
    at_bool (nat_le k s.at) (λ _. (k ≤ length new) × (counts (take k new) ≡ counts (take k rs)))
    (λ yes. let within = from_le_true k s.at yes in (
      omega (arith, within, long),
      ap counts (ap (take k) runs ∙ take-append-le k (take s.at rs) (h ∷ []) (omega (arith, within, front_long)) ∙ take-take k s.at rs within),
    ))
    (λ no. let past = from_le_false k s.at no in
    let grown = rise (s.at + 1) k rs (whole front base rs sound.numbered) (omega (arith, past)) low in
    let next = counts_at rs s.at s.run there spot.run_is in
    let wide = spot.within in
    let end : k ≡ s.at + 1 = omega (arith, past, grown, next, wide, few, inside, last, some) in
    let whole_new = ap counts (ap (λ l. take k l) runs ∙ take_all k (take s.at rs ++ (h ∷ [])) (let l = ap length (sym runs) in omega (arith, l, long, end)))
    ∙ counts-append (take s.at rs) (h ∷ []) in
    let all : counts (take s.at rs) + (total h + 0) ≡ counts (take k rs) = omega (arith, end, grown, next, wide, few, inside, last, some, is) in
    (omega (arith, end, long), whole_new ∙ all))
  where
    counts_at : (rs : List Run) (i : ℕ) (r : Run) → i < length rs → r ≡ slice_index_or rs i r → counts (take (i + 1) rs) ≡ counts (take i rs) + total r
    counts_at rs i r h e =
        ap counts (take_more rs i r h) ∙ counts-append (take i rs) (slice_index_or rs i r ∷ [])
        ∙ (let same : total (slice_index_or rs i r) ≡ total r = ap (λ (x : Run). total x) (sym e) in omega (arith, same))

-- a place at a run that was found
pub got : (e : Bool) (r : Run) (ss : List ℕ) (j : ℕ) (d : Place) → e ≡ true → j < r.count → slice_index_or (laid e r ss) j d ≡ in_block (block r) (r.start + j * r.size) r.size
got true r ss j d h k = get-laid_even r ss j d k
got false r ss j d h k = absurd (let clash : false ≡ true = h in let never : ⊥ = cc in never)

first_starts : (starts : List ℕ) (from n j : ℕ) (o : ℕ) → from + n ≤ length starts → j < n → o ≡ slice_index_or starts (from + j) o → slice_index_or (take n (drop from starts)) j 0 ≡ o
first_starts starts from n j o h k e =
    get_or-take n (drop from starts) j 0 k ∙ get_or-drop from starts j 0
    ∙ get_or_default starts (from + j) 0 o (omega (arith, h, k)) ∙ sym e

pub got_inner : (e : Bool) (r : Run) (starts : List ℕ) (from j o p : ℕ) (d : Place) → e ≡ false → from + r.count ≤ length starts → j + 1 < r.count
    → o ≡ slice_index_or starts (from + j) o → p ≡ slice_index_or starts (from + j + 1) p → slice_index_or (laid e r (drop from starts)) j d ≡ in_block (block r) o (p - o)
got_inner true r starts from j o p d h all low o_is p_is = absurd (let clash : true ≡ false = h in let never : ⊥ = cc in never)
got_inner false r starts from j o p d h all low o_is p_is =
    let rest = length-drop from starts in
    let long = length-take-le r.count (drop from starts) (omega (arith, rest, all)) in
    get-uneven (block r) r.size (take r.count (drop from starts)) j d (omega (arith, long, low))
    ∙ ap₂ (λ a b. in_block (block r) a (b - a)) (first_starts starts from r.count j o all (omega (arith, low)) o_is)
    (first_starts starts from r.count (j + 1) p all low (p_is ∙ ap (λ n. slice_index_or starts n p) (let same : from + j + 1 ≡ from + (j + 1) = omega arith in same)))

pub got_last : (e : Bool) (r : Run) (starts : List ℕ) (from j o : ℕ) (d : Place) → e ≡ false → from + r.count ≤ length starts → r.count ≡ j + 1
    → o ≡ slice_index_or starts (from + j) o → slice_index_or (laid e r (drop from starts)) j d ≡ in_block (block r) o r.size
got_last true r starts from j o d h all low o_is = absurd (let clash : true ≡ false = h in let never : ⊥ = cc in never)
got_last false r starts from j o d h all low o_is =
    let rest = length-drop from starts in
    let long = length-take-le r.count (drop from starts) (omega (arith, rest, all)) in
    get-uneven_last (block r) r.size (take r.count (drop from starts)) j d (omega (arith, long, low))
    ∙ ap (λ a. in_block (block r) a r.size) (first_starts starts from r.count j o all (omega (arith, low)) o_is)

-- the numbers behind an entry fit
pub spot_numbers : (front base len position : ℕ) (rs : List Run) (ss : List ℕ) (s : Spot) → IsSound front base len rs ss → IsSpot rs ss position s
    → (s.run.first + s.within < 2 ^ 64) × (s.run.at + span s.run s.within < 2 ^ 64) × (base ≤ s.run.at) × (base + s.from ≡ s.run.at)
spot_numbers front base len position rs ss s sound spot =
    let around_is = here front base len position rs ss s sound spot in
    let first = around_is.first in
    let at = around_is.at in
    let count = around_is.count in
    let starts = around_is.starts in
    let fits = sound.fits in
    let room = sound.starts_fit in
    let low = spot.within in
    let few = span_le s.run s.within (omega (arith, low)) in
    let from = spot.from_is in
    (omega (arith, first, count, fits, low), omega (arith, at, starts, few, room), omega (arith, at), omega (arith, at, from))

pub no_width : (e : Bool) (n : ℕ) → e ≡ false → width_of e n ≡ n
no_width true n h = absurd (let clash : true ≡ false = h in let never : ⊥ = cc in never)
no_width false n h = refl

-- the starts that go with so many entries of a run are there
pub tail_inside : (front base len position : ℕ) (rs : List Run) (ss : List ℕ) (s : Spot) → IsSound front base len rs ss → IsSpot rs ss position s → (t : Run)
    → t.at ≡ s.run.at + span s.run s.within → (base ≤ t.at) × (t.at - base ≤ length ss)
tail_inside front base len position rs ss s sound spot t e =
    let fit = (spot_numbers front base len position rs ss s sound spot).3 in
    let all = spot.enough in
    let low = spot.within in
    let few = span_le s.run s.within (omega (arith, low)) in
    (omega (arith, e, fit), omega (arith, e, fit, all, few))

-- a place of an entry of a run, in its block or alone
pub got_placed : (r : Run) (starts : List ℕ) (from j : ℕ) (d : Place) → from + width r ≤ length starts → j < r.count
    → slice_index_or (places_of r (drop from starts)) j d ≡ slice_index_or (laid r.even r (drop from starts)) j d
got_placed r starts from j d all h = let rest = length-drop from starts in get-placed r (drop from starts) (omega (arith, rest, all)) j d h

pub got_apart : (r : Run) (starts : List ℕ) (from j : ℕ) (d : Place) → from + width r ≤ length starts → r.count ≤ j → j < total r
    → slice_index_or (places_of r (drop from starts)) j d ≡ place_from (drop (from + span r j) starts)
got_apart r starts from j d all h k =
    let rest = length-drop from starts in
    get-apart r (drop from starts) (omega (arith, rest, all)) j d h k ∙ ap place_from (drop-drop (span r j) from starts)

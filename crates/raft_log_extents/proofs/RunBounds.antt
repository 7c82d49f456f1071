-- Bounds of entries that lie one behind another.
use Rattle.std.proofs.Common.{◌≡◌, ℕ, zero, suc, ◌+◌, ◌-◌, ◌*◌, ◌<◌, ◌≤◌, List, [], ◌∷◌, ◌++◌, true, false, length, take, drop, slice_index_or, refl, sym, ap, ap₂, ◌∙◌, drop-drop, get_or-take, length-take-le, take-take, take_all, arith, get_or-drop, length-drop, suc-mul, zero-mul}
use Rattle.raft_log_extents.specs.declared.place.Place.{Place}
use Rattle.raft_log_extents.specs.declared.run.Run.{Run}
use Rattle.raft_log_extents.specs.declared.runs.Runs.{Runs}
use Rattle.raft_log_extents.specs.Blocks.{between, even_places, in_block, rising, uneven_places}
use Rattle.raft_log_extents.specs.RunLists.{places}
use Rattle.raft_log_extents.specs.Runs.{IsFound, block, laid, span}
use Rattle.raft_log_extents.specs.Spots.{IsSpot}
use Rattle.raft_log_extents.specs.Words.{place_from}
use Rattle.raft_log_extents.proofs.RunCopies.{alone_are, even_are, starts_fit, uneven_are}
use Rattle.raft_log_extents.proofs.RunPlaces.{drop-uneven, length-uneven, take-even}
use Rattle.raft_log_extents.proofs.RunReplacing.{sound_length}
use Rattle.std.proofs.Math.Seq.{take-suc}
use Rattle.std.proofs.lemmas.List.{drop-take, get_or_default}
use Rattle.raft_log_extents.proofs.RunSpots.{spot_is}

-- the places between bounds that rise by one length
rising_between : (b : Place) (x s n : ℕ) → between b (rising x s (suc n)) ≡ even_places b s x n
rising_between b x s zero = refl
rising_between b x s (suc n) = ap₂ (λ k l. in_block b x k ∷ l) (let same : x + s - x ≡ s = omega arith in same) (rising_between b (x + s) s n)

-- so many of the places of one length, behind others
even_from : (b : Place) (s o n j k : ℕ) → j + k ≤ n → take k (drop j (even_places b s o n)) ≡ even_places b s (o + j * s) k
even_from b s o n zero k h = take-even b s o n k (omega (arith, h)) ∙ ap (λ x. even_places b s x k) (let none = zero-mul s in let same : o ≡ o + 0 * s = omega (arith, none) in same)
even_from b s o zero (suc j) k h = absurd (omega (arith, h))
even_from b s o (suc n) (suc j) k h =
    even_from b s (o + s) n j k (omega (arith, h))
    ∙ ap (λ x. even_places b s x k) (let one = suc-mul j s in let same : o + s + j * s ≡ o + suc j * s = omega (arith, one) in same)

-- the bounds of so many entries of one length, behind others
pub even_between : (b : Place) (s o n j k : ℕ) → j + k ≤ n → between b (rising (o + j * s) s (k + 1)) ≡ take k (drop j (even_places b s o n))
even_between b s o n j k h =
    ap (λ m. between b (rising (o + j * s) s m)) (let one : k + 1 ≡ suc k = omega arith in one) ∙ rising_between b (o + j * s) s k ∙ sym (even_from b s o n j k h)

-- starts that others lie behind, and all of them and the end of the last entry
between_starts : (b : Place) (s : ℕ) (os : List ℕ) (n : ℕ) → n < length os → between b (take (suc n) os) ≡ take n (uneven_places b s os)
between_starts b s [] n h = absurd (omega arith)
between_starts b s (o ∷ []) zero h = refl
between_starts b s (o ∷ []) (suc n) h = absurd (omega arith)
between_starts b s (o ∷ (p ∷ os)) zero h = refl
between_starts b s (o ∷ (p ∷ os)) (suc n) h = ap (λ l. in_block b o (p - o) ∷ l) (between_starts b s (p ∷ os) n (omega arith))

between_all : (b : Place) (s : ℕ) (os : List ℕ) (i x : ℕ) → length os ≡ i + 1 → x ≡ slice_index_or os i x → between b (os ++ ((x + s) ∷ [])) ≡ uneven_places b s os
between_all b s [] i x h e = absurd (omega arith)
between_all b s (o ∷ []) zero x h e = ap (λ n. in_block b o n ∷ []) (let same : x + s - o ≡ s = omega (arith, e) in same)
between_all b s (o ∷ []) (suc i) x h e = absurd (omega arith)
between_all b s (o ∷ (p ∷ os)) zero x h e = absurd (omega arith)
between_all b s (o ∷ (p ∷ os)) (suc i) x h e = ap (λ l. in_block b o (p - o) ∷ l) (between_all b s (p ∷ os) i x (omega arith) e)

-- some first starts, and the one behind them
pub starts_and_next : (starts part : List ℕ) (first x : ℕ) → part ≡ take (length part) (drop first starts) → first + length part < length starts
    → x ≡ slice_index_or starts (first + length part) x → part ++ (x ∷ []) ≡ take (length part + 1) (drop first starts)
starts_and_next starts part first x is less at =
    let k = length part in
    let more = length-drop first starts in
    ap (λ l. l ++ (x ∷ [])) is ∙ ap (λ y. take k (drop first starts) ++ (y ∷ [])) (at ∙ sym (get_or-drop first starts k x))
    ∙ sym (take-suc (drop first starts) k x (omega (arith, less, more)))
    ∙ ap (λ n. take n (drop first starts)) (let one : suc k ≡ k + 1 = omega arith in one)

-- the last of some first starts
pub last_start : (starts part : List ℕ) (first : ℕ) → part ≡ take (length part) (drop first starts) → 0 < length part → first + length part ≤ length starts
    → (x : ℕ) → x ≡ slice_index_or part (length part - 1) 0 → x ≡ slice_index_or starts (first + (length part - 1)) x
last_start starts part first is some inside x at =
    let k = length part in
    at ∙ ap (λ l. slice_index_or l (k - 1) 0) is ∙ get_or-take k (drop first starts) (k - 1) 0 (omega (arith, some))
    ∙ get_or-drop first starts (k - 1) 0 ∙ get_or_default starts (first + (k - 1)) 0 x (omega (arith, some, inside))

-- The starts of a run behind so many others.
module _ (r : Run) (starts : List ℕ) (from within count : ℕ) (there : from + r.count ≤ length starts) where
  rest_is : (k : ℕ) → r.count ≡ within + k → drop within (laid false r (drop from starts)) ≡ uneven_places (block r) r.size (take k (drop (from + within) starts))
  rest_is k e =
      drop-uneven (block r) r.size (take r.count (drop from starts)) within
      ∙ ap (uneven_places (block r) r.size) (ap (λ n. drop within (take n (drop from starts))) e ∙ drop-take within k (drop from starts) ∙ ap (take k) (drop-drop within from starts))

  pub starts_inside : within + count < r.count → between (block r) (take (count + 1) (drop (from + within) starts)) ≡ take count (drop within (laid false r (drop from starts)))
  starts_inside low =
      let k = r.count - within in
      let os = take k (drop (from + within) starts) in
      let more = length-drop (from + within) starts in
      let long = length-take-le k (drop (from + within) starts) (omega (arith, more, there, low)) in
      ap (between (block r)) (ap (λ n. take n (drop (from + within) starts)) (let one : count + 1 ≡ suc count = omega arith in one) ∙ sym (take-take (suc count) k (drop (from + within) starts) (omega (arith, low))))
      ∙ between_starts (block r) r.size os count (omega (arith, long, low)) ∙ ap (take count) (sym (rest_is k (omega (arith, low))))

  pub starts_to_end : (x : ℕ) → within + count ≡ r.count → 0 < count → x ≡ slice_index_or starts (from + within + (count - 1)) x
      → between (block r) (take count (drop (from + within) starts) ++ ((x + r.size) ∷ [])) ≡ take count (drop within (laid false r (drop from starts)))
  starts_to_end x all some is =
      let os = take count (drop (from + within) starts) in
      let more = length-drop (from + within) starts in
      let long = length-take-le count (drop (from + within) starts) (omega (arith, more, there, all)) in
      let last : x ≡ slice_index_or os (count - 1) x =
      is ∙ sym (get_or-take count (drop (from + within) starts) (count - 1) x (omega (arith, some)) ∙ get_or-drop (from + within) starts (count - 1) x) in
      let whole = length-uneven (block r) r.size os in
      between_all (block r) r.size os (count - 1) x (omega (arith, long, some)) last
      ∙ sym (take_all count (uneven_places (block r) r.size os) (omega (arith, whole, long))) ∙ ap (take count) (sym (rest_is count (omega (arith, all))))

-- The run that an entry was found in.
module _ (all : Runs) (position at : ℕ) (r : Run) (low : position < length (places all)) (found : IsFound (all.front + position) all.runs.items at) (is : r ≡ slice_index_or all.runs.items at r) where
  abbrev pub rs : List Run
  rs = all.runs.items

  abbrev pub ss : List ℕ
  ss = all.starts.items

  abbrev pub within : ℕ
  within = all.front + position - r.first

  pub found_spot : IsSpot rs ss position (record { at = at; run = r; from = r.at - all.base; within = within })
  found_spot =
      let long = sound_length all.front all.base all.len rs ss all.sound in
      let count = all.sound.count in
      spot_is all.front all.base all.len position (all.front + position) rs ss (record { at = at; run = r; from = r.at - all.base; within = within }) all.sound refl
      (omega (arith, low, long, count)) found is refl refl

  pub starts_behind : r.even ≡ false → r.at - all.base + r.count ≤ length ss
  starts_behind uneven = starts_fit all.front all.base all.len at rs ss r all.sound found.within is uneven

  -- the bounds of so many entries of it, by whether they have one length
  pub even_bounds : (b : Place) (count : ℕ) (bounds : List ℕ) → b ≡ in_block (block r) 0 0 → length bounds ≡ count + 1 → r.even ≡ true → within + count ≤ r.count
      → between (block r) bounds ≡ take count (drop within (laid true r [])) → between b bounds ≡ take (length bounds - 1) (drop position (places all))
  even_bounds b count bounds b_is long even inside so =
      ap (λ p. between p bounds) b_is ∙ so ∙ even_are all.front all.base all.len at rs ss r all.sound found.within is within count even inside
      ∙ ap₂ (λ n m. take n (drop m (places all))) (let same : count ≡ length bounds - 1 = omega (arith, long) in same) found_spot.within_is

  pub uneven_bounds : (b : Place) (count : ℕ) (bounds : List ℕ) → b ≡ in_block (block r) 0 0 → length bounds ≡ count + 1 → r.even ≡ false → within + count ≤ r.count
      → between (block r) bounds ≡ take count (drop within (laid false r (drop (r.at - all.base) ss))) → between b bounds ≡ take (length bounds - 1) (drop position (places all))
  uneven_bounds b count bounds b_is long uneven inside so =
      ap (λ p. between p bounds) b_is ∙ so ∙ uneven_are all.front all.base all.len at rs ss r all.sound found.within is within count uneven inside
      ∙ ap₂ (λ n m. take n (drop m (places all))) (let same : count ≡ length bounds - 1 = omega (arith, long) in same) found_spot.within_is

  -- and those of one that is alone
  pub alone_bounds : (b : Place) (bounds : List ℕ) → length bounds ≡ 2 → r.count ≤ within → between b bounds ≡ place_from (drop (r.at - all.base + span r within) ss) ∷ []
      → between b bounds ≡ take (length bounds - 1) (drop position (places all))
  alone_bounds b bounds long past so =
      let inside = found_spot.within in
      so ∙ alone_are all.front all.base all.len at rs ss r all.sound found.within is within 1 past (omega (arith, inside))
      ∙ ap₂ (λ n m. take n (drop m (places all))) (let same : 1 ≡ length bounds - 1 = omega (arith, long) in same) found_spot.within_is

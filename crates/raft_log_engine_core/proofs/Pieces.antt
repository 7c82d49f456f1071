-- Entries of a table that are read a piece after another.
use Rattle.std.proofs.Common.{◌≡◌, ◌∙◌, ◌+◌, ◌-◌, ◌<◌, ◌≤◌, ◌++◌, ℕ, zero, suc, true, List, [], ◌∷◌, Option, Some, ap, ap₂, arith, drop, drop-drop, inr, length, length-drop, length-take-le, refl, sym, subst, take, take-take}
use Rattle.raft_log_record_base.specs.declared.pipe_log.FileBlockHandle.{FileBlockHandle}
use Rattle.raft_log_extents.specs.declared.bounds.Bounds.{Bounds}
use Rattle.raft_log_extents.specs.declared.place.Place.{Place}
use Rattle.raft_log_extents.specs.Counts.{sized}
use Rattle.raft_log_memtable_index.specs.Shown.{Shown}
use Rattle.raft_log_memtable.specs.Reads.{AreIn, entries_from, fetched, places_between}
use Rattle.raft_log_purge.specs.raft_log_engine_laws.specs.Fetching.{AreToRead}
use Rattle.raft_log_purge.specs.raft_log_engine_laws.specs.EngineState.{EngineState}
use Rattle.raft_log_engine_core.specs.Reads.{AreNext, HasFirst, LieNext, entries_on}

none_left : (v : Shown) (n k : ℕ) → entries_from v n (take k []) ≡ []
none_left v n zero = refl
none_left v n (suc k) = refl

-- of some places, those in front and those behind
from_split : (v : Shown) (n k count : ℕ) (ps : List Place) → k ≤ count
    → entries_from v n (take count ps) ≡ entries_from v n (take k ps) ++ entries_from v (n + k) (take (count - k) (drop k ps))
from_split v n zero count ps few =
    let same : n ≡ n + 0 = omega arith in
    let all : count ≡ count - 0 = omega arith in
    ap₂ (λ m c. entries_from v m (take c ps)) same all
from_split v n (suc k) zero ps few = absurd (omega (arith, few))
from_split v n (suc k) (suc count) [] few = sym (none_left v (n + suc k) (suc count - suc k))
from_split v n (suc k) (suc count) (p ∷ ps) few =
    let rest = from_split v (n + 1) k count ps (omega (arith, few)) in
    let moved : n + 1 + k ≡ n + suc k = omega arith in
    let left : count - k ≡ suc count - suc k = omega arith in
    let head = entries_from v n (p ∷ []) in
    ap (λ l. head ++ l) (rest ∙ ap₂ (λ m c. entries_from v (n + 1) (take k ps) ++ entries_from v m (take c (drop k ps))) moved left)

-- of some entries, those in front and those behind
pub on_split : (v : Shown) (index k count : ℕ) → v.first ≤ index → k ≤ count
    → entries_on v index count ≡ entries_on v index k ++ entries_on v (index + k) (count - k)
on_split v index k count low few =
    let n = index - v.first in
    let further : n + k ≡ index + k - v.first = omega (arith, low) in
    from_split v n k count (drop n v.places) few
    ∙ ap (λ l. entries_on v index k ++ entries_from v (n + k) (take (count - k) l)) (drop-drop k n v.places)
    ∙ ap (λ m. entries_on v index k ++ entries_from v m (take (count - k) (drop m v.places))) further

from_length : (v : Shown) (n : ℕ) (ps : List Place) → length (entries_from v n ps) ≡ length ps
from_length v n [] = refl
from_length v n (p ∷ ps) = ap suc (from_length v (n + 1) ps)

-- there are as many as were asked for
pub on_length : (v : Shown) (index count : ℕ) → v.first ≤ index → index + count ≤ v.first + length v.places → length (entries_on v index count) ≡ count
on_length v index count low high =
    let n = index - v.first in
    let left = length-drop n v.places in
    from_length v n (take count (drop n v.places)) ∙ length-take-le count (drop n v.places) (omega (arith, left, low, high))

module _ (v : Shown) (begin end : ℕ) (max : Option ℕ) (count : ℕ) (is : count ≡ sized max (places_between v begin end)) (few : count ≤ end - begin) where
  -- they are those of a fetch
  all_asked : entries_on v begin count ≡ fetched v begin end max
  all_asked =
      ap (entries_from v (begin - v.first)) (sym (take-take count (end - begin) (drop (begin - v.first) v.places) few))
      ∙ ap (λ n. entries_from v (begin - v.first) (take n (places_between v begin end))) is

  -- and lie in the table, below the end
  pub asked_within : 0 < count → AreIn v begin end → (v.first ≤ begin) × (begin + count ≤ v.first + length v.places) × (begin + count ≤ end)
  asked_within some within =
      let (low, high) = within (omega (arith, some, few)) in
      (low, omega (arith, some, few, high), omega (arith, some, few))

-- the first of them is there
pub first_there : (v w : Shown) (begin end count : ℕ) → w ≡ v → 0 < count → count ≤ end - begin → AreIn v begin end → HasFirst w begin end
first_there v w begin end count same some few within =
    let less : begin < end = omega (arith, some, few) in
    let (low, high) = within less in
    subst (λ u. HasFirst u begin end) (sym same) (record { some = less; low = low; high = omega (arith, less, high) })

pub are_to_read : (s : EngineState) (g : ℕ) (v : Shown) (begin end : ℕ) (max : Option ℕ) (count : ℕ) → s.tables g ≡ v → s.counts g ≡ true → AreIn v begin end → count ≡ sized max (places_between v begin end)
    → count ≤ end - begin → AreToRead s g begin end max (entries_on v begin count)
are_to_read s g v begin end max count same some within is few =
    inr (some, subst (λ w. AreIn w begin end) (sym same) within, all_asked v begin end max count is few ∙ ap (λ w. fetched w begin end max) (sym same))

-- where the next entries lie, if there are some
pub next_lie : (v : Shown) (index left : ℕ) (next : Option (FileBlockHandle × Bounds)) (block : FileBlockHandle) (bounds : Bounds) → next ≡ Some (block, bounds) → AreNext v index left next → LieNext v index left block bounds
next_lie v index left next block bounds is lie = subst (λ n. AreNext v index left n) is lie

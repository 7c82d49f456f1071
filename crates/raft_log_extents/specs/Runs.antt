-- Lists of runs, which encode the places of a group's consecutive entries. A run begins with entries that are adjacent
-- in one block, the block of the run. If all these entries have the same length, the run is even, and stores only the
-- offset of the first one. Otherwise the offset of each is in a second list, `starts`. Each further entry of the run is
-- alone in a block; `starts` has its place, as eight numbers.
use Rattle.std.specs.Prelude.{◌≡◌, ℕ, ◌+◌, ◌-◌, ◌*◌, ◌<◌, ◌≤◌, ◌^◌, Bool, true, false, List, [], ◌∷◌, ◌++◌, if◌then◌else◌, nat_le, nat_lt, length, map, take, drop, slice_index_or}
use Rattle.std.specs.Coded.{Unit-prop, le_prop, Coded-set, coded_ℕ}
use Rattle.raft_log_record_items.specs.declared.entry.EntryIndex.{EntryIndex}
use Rattle.raft_log_extents.specs.declared.place.Place.{Place}
use Rattle.raft_log_extents.specs.declared.run.Run.{Run}
use Rattle.raft_log_extents.specs.Blocks.{even_places, uneven_places}
use Rattle.raft_log_extents.specs.Words.{whole_places}

-- the block of run `r`, as the place of an entry of length 0 at the beginning of the block
abbrev pub block : Run → Place
block r = record { file = r.file; offset = r.offset; len = r.len; entry_offset = 0; entry_len = 0 }

-- how many starts are stored for `count` entries in the block of a run: none if the run is even (`true`), else one for
-- each entry
abbrev pub width_of : Bool → ℕ → ℕ
width_of true count = 0
width_of false count = count

-- the number of entries of run `r`: those in its block, and those that are alone
abbrev pub total : Run → ℕ
total r = r.count + r.alone

-- how many starts are stored for run `r`
abbrev pub width : Run → ℕ
width r = width_of r.even r.count + r.alone * 8

-- how many starts are stored for the first `count` entries of run `r`
abbrev pub span : Run → ℕ → ℕ
span r count =
    if nat_lt count r.count then width_of r.even count else width_of r.even r.count + (count - r.count) * 8

-- The places of the entries in the block of run `r`. The flag says whether the run is even. If so, `start` and `size`
-- of the run give these places. Otherwise `starts` begins with the entries' offsets.
abbrev pub laid : Bool → Run → List ℕ → List Place
laid true r starts = even_places (block r) r.size r.start r.count
laid false r starts = uneven_places (block r) r.size (take r.count starts)

-- The places of run `r`, whose stored starts are the first of `starts`. First come the places in the block of the run,
-- and then those of entries that are alone in a block.
abbrev pub places_of : Run → List ℕ → List Place
places_of r starts = laid r.even r starts ++ whole_places r.alone (drop (width_of r.even r.count) starts)

-- the places of these runs, in order; `starts` has the stored starts of all runs
abbrev pub expand : List Run → List ℕ → List Place
expand [] starts = []
expand (r ∷ rs) starts = places_of r starts ++ expand rs (drop (width r) starts)

-- the total number of entries in these runs
abbrev pub counts : List Run → ℕ
counts [] = 0
counts (r ∷ rs) = total r + counts rs

-- the total number of starts that are stored for these runs
abbrev pub widths : List Run → ℕ
widths [] = 0
widths (r ∷ rs) = width r + widths rs

-- run `r` with one more entry that is alone in its block
abbrev pub one_more : Run → Run
one_more r = record r { alone = r.alone + 1 }

-- The first `count` entries of run `r`. If all of these are in the run's block, `size` is the length of the last one;
-- in an even run, of each.
abbrev pub head : Run → ℕ → ℕ → Run
head r count size =
    if nat_le count r.count then record r { count = count; size = size; alone = 0 }
    else record r { alone = count - r.count }

-- Run `r` without its first `gone` entries. If the first entry that is left is in the run's block, its offset there is
-- `start`.
abbrev pub tail : Run → ℕ → ℕ → Run
tail r gone start =
    if nat_lt gone r.count
    then record r { first = r.first + gone; count = r.count - gone; at = r.at + span r gone; start = start }
    else record r {
      first = r.first + gone;
      count = 0;
      at = r.at + span r gone;
      alone = r.alone - (gone - r.count);
    }

-- if the run is even (`true`), each entry in its block begins at an offset below 2 ^ 32
abbrev pub StartsFit : Bool → Run → Type 0
StartsFit true r = (j : ℕ) → j < r.count → r.start + j * r.size < 2 ^ 32
StartsFit false r = Unit {0}

-- Every run has entries. The entries of all runs are numbered consecutively from `first` on, and their stored starts
-- from `at` on. In even runs, each entry in the block begins at an offset below 2 ^ 32.
abbrev pub IsNumbered : ℕ → ℕ → List Run → Type 0
IsNumbered first at [] = Unit {0}
IsNumbered first at (r ∷ rs) =
    (r.first ≡ first) × (r.at ≡ at) × (0 < total r) × StartsFit r.even r
    × IsNumbered (first + total r) (at + width r) rs

-- the same runs with other numbers: their entries are numbered from `first` on, and their starts from `at` on
abbrev pub renumbered : ℕ → ℕ → List Run → List Run
renumbered first at [] = []
renumbered first at (r ∷ rs) =
    record r { first = first; at = at } ∷ renumbered (first + total r) (at + width r) rs

-- The invariant of a list of runs and its starts. Entries are numbered from `front` on, and starts from `base` on. The
-- runs have `len` entries in total. `starts` has exactly the starts of these runs. No number reaches 2 ^ 64.
pub record IsSound (front base len : ℕ) (rs : List Run) (starts : List ℕ) : Type 0 where
  pub numbered : IsNumbered front base rs
  pub count : counts rs ≡ len
  pub starts_are : widths rs ≡ length starts
  pub fits : front + len < 2 ^ 64
  pub starts_fit : base + length starts < 2 ^ 64

-- The runs `more` were appended to the runs `old`, which gives `new`. Their starts `kept` were appended to the starts
-- `were`, which gives `starts`. The entries of `more` are numbered from `first` on, and the starts `kept` from `at` on.
-- The runs `more` encode `len` entries, at the places `ps`.
pub record AreAdded (first at len : ℕ) (ps : List Place) (old new : List Run) (were starts : List ℕ) (more : List Run) (kept : List ℕ) : Type 0 where
  pub runs : new ≡ old ++ more
  pub starts_are : starts ≡ were ++ kept
  pub sound : IsSound first at len more kept
  pub places : expand more kept ≡ ps

-- if some run has the entry with the number `number`, it is the run at position `k`
pub record IsFound (number : ℕ) (rs : List Run) (k : ℕ) : Type 0 where
  pub within : k < length rs
  pub low : (d : Run) → (slice_index_or rs k d).first ≤ number
  pub high : (d : Run) → k + 1 < length rs → number < (slice_index_or rs (k + 1) d).first

-- the offset of entry `e` in its block
abbrev pub start_of_entry : EntryIndex → ℕ
start_of_entry e = e.entry_offset

-- the starts that are stored for these entries in a run's block: none if the run is even (`true`), else the offset of
-- each
abbrev pub starts_for : Bool → List EntryIndex → List ℕ
starts_for true es = []
starts_for false es = map start_of_entry es

-- any two proofs of `StartsFit` are equal
pub StartsFit-prop : (e : Bool) (r : Run) → IsProp (StartsFit e r)
StartsFit-prop true r = Prim.hlevel le_prop
StartsFit-prop false r = Unit-prop

-- any two proofs of `IsNumbered` are equal
pub IsNumbered-prop : (first at : ℕ) (rs : List Run) → IsProp (IsNumbered first at rs)
IsNumbered-prop first at [] = Unit-prop
IsNumbered-prop first at (r ∷ rs) =
    let fits = StartsFit-prop r.even r in
    let rest = IsNumbered-prop (first + total r) (at + width r) rs in
    let numbers : (n m : ℕ) → IsProp (n ≡ m) = λ n m. Coded-set coded_ℕ n m in
    let one = numbers r.first first in
    let two = numbers r.at at in
    Prim.hlevel (one, two, le_prop, fits, rest)

-- any two proofs of `IsSound` are equal
pub IsSound-prop : (front base len : ℕ) (rs : List Run) (starts : List ℕ) → IsProp (IsSound front base len rs starts)
IsSound-prop front base len rs starts =
    let numbered = IsNumbered-prop front base rs in
    let numbers : (n m : ℕ) → IsProp (n ≡ m) = λ n m. Coded-set coded_ℕ n m in
    let one = numbers (counts rs) len in
    let two = numbers (widths rs) (length starts) in
    Prim.hlevel (numbered, one, two, le_prop)

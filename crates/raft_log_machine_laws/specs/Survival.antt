-- What a crash may leave of a directory's two queues, and which map a recovery gets from it. A start is the record at
-- which the recovery begins to read a queue. It is the first of the live range, or one below it that is still on disk.
use Rattle.std.specs.Prelude.{◌≡◌, ℕ, ◌≤◌, ◌⊎◌, List, ◌++◌, length, take, Option, None, Some}
use Rattle.raft_log_model_laws.specs.Item.{Item, Record}
use Rattle.raft_log_model_laws.specs.Meaning.{Slot, says, holds}
use Rattle.raft_log_model_laws.specs.Groups.{of_group, counts, opened, none_open, appended, rewritten, Map, directory_meaning, taken}
use Rattle.raft_log_machine_laws.specs.Queue.{Queue, Store}

-- The directory holds map `m`. A recovery gets `m` if it reads Append's synced records and none of its pending ones.
-- This is so from every start in both queues, and for every prefix of Rewrite's pending records.
abbrev pub HoldsMap : {E V : Type 0} → Store E V → Map E V → Type 0
HoldsMap {E} {V} q m =
    (g : ℕ) (s : Slot) (r_kept r_lost r_cut r_back a_cut a_back : List (Record E V))
    → r_kept ++ r_lost ≡ q.rewrite.pending → r_cut ++ r_back ≡ q.rewrite.gone
    → a_cut ++ a_back ≡ q.append.gone
    → directory_meaning (r_back ++ (q.rewrite.live ++ r_kept)) (a_back ++ q.append.live) g s ≡ m g s

-- A crash loses at most a suffix of the pending `batches`. The prefixes of pending records that the crash leaves
-- determine a number `count`. From every start in both queues, a recovery then gets map `m` after the first `count`
-- batches.
abbrev pub Survives : {E V : Type 0} → Store E V → Map E V → List (Record E V) → Type 0
Survives {E} {V} q m batches =
    (r_kept r_lost a_kept a_lost : List (Record E V)) → r_kept ++ r_lost ≡ q.rewrite.pending
    → a_kept ++ a_lost ≡ q.append.pending
    → (count : ℕ) × (count ≤ length batches)
    × ((g : ℕ) (s : Slot) (r_cut r_back a_cut a_back : List (Record E V))
    → r_cut ++ r_back ≡ q.rewrite.gone → a_cut ++ a_back ≡ q.append.gone
    → directory_meaning (r_back ++ (q.rewrite.live ++ r_kept)) (a_back ++ (q.append.live ++ a_kept)) g s
    ≡ taken m (take count batches) g s)

-- `word` is what some records do to a slot; they touch the slot, even if they only empty it
abbrev pub IsSpoken : {C : Type 0} → Option (Option C) → Type 0
IsSpoken {C} word = (value : Option C) × (word ≡ Some value)

-- What Rewrite does to a slot, `word`, changes nothing in the map: Rewrite doesn't touch the slot, or puts there
-- `value`, which the map has there, or Append overrides Rewrite. Append does that if its records touch the slot too
-- (`append_word`).
abbrev pub IsHarmless : {C : Type 0} → Option (Option C) → Option C → Option (Option C) → Type 0
IsHarmless word value append_word = (word ≡ None) ⊎ ((word ≡ Some value) ⊎ IsSpoken append_word)

-- the items of raft group `g` that start to count when Rewrite takes record `y`, if a reading starts with the records
-- `back` below the live range
abbrev pub counting : {E V : Type 0} → Queue E V → List (Record E V) → Record E V → ℕ → List (Item E V)
counting q back y g = of_group g (counts (opened none_open (back ++ (q.live ++ q.pending))) y)

-- Rewrite may take record `y`, if the directory `q` holds map `m`. From every start, the items that start to count with
-- `y` change nothing, even without Append's pending records.
abbrev pub MayRewrite : {E V : Type 0} → Store E V → Map E V → Record E V → Type 0
MayRewrite {E} {V} q m y =
    (g : ℕ) (s : Slot) (cut back : List (Record E V)) → cut ++ back ≡ q.rewrite.gone
    → IsHarmless (says s (counting q.rewrite back y g)) (m g s) (says s (appended g q.append.live))

-- Append's live range may begin at the records `n2`, if the directory `q` holds map `m`. For each slot, the records
-- `n2` touch it. Or Rewrite's synced records alone, from each start, leave in the slot what the map has there.
abbrev pub MayRaiseAppend : {E V : Type 0} → Store E V → Map E V → List (Record E V) → Type 0
MayRaiseAppend {E} {V} q m n2 =
    (g : ℕ) (s : Slot) → IsSpoken (says s (appended g n2))
    ⊎ ((cut back : List (Record E V)) → cut ++ back ≡ q.rewrite.gone
    → holds s (rewritten g (back ++ q.rewrite.live)) ≡ m g s)

-- Rewrite's live range may begin at the records `n2`, if the directory `q` holds map `m`. For each slot, an item that
-- counts in `n2` touches it, or the map has nothing there, or Append's synced records touch it and override Rewrite.
abbrev pub MayRaiseRewrite : {E V : Type 0} → Store E V → Map E V → List (Record E V) → Type 0
MayRaiseRewrite {E} {V} q m n2 =
    (g : ℕ) (s : Slot) → IsSpoken (says s (rewritten g n2)) ⊎ ((m g s ≡ None)
    ⊎ IsSpoken (says s (appended g q.append.live)))

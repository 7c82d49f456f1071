-- Reads of a table.
use Rattle.std.specs.Prelude.{◌≡◌, ℕ, zero, suc, ◌+◌, ◌-◌, ◌^◌, min, ◌<◌, ◌≤◌, ◌⊎◌, Bool, true, false, List, [], ◌∷◌, ◌++◌, length, take, drop, Option, Some, None, option_map, if◌then◌else◌, nat_lt, nat_le, slice_get}
use Rattle.std.specs.Ordering.{is_le}
use Rattle.raft_log_record_base.specs.declared.errors.Error.{Error}
use Rattle.raft_log_record_base.specs.declared.errors.Error.TheVariants as errors
use Rattle.raft_log_record_base.specs.declared.pipe_log.FileId.{FileId}
use Rattle.raft_log_record_base.specs.declared.pipe_log.LogQueue.{LogQueue}
use Rattle.raft_log_record_base.specs.Files.{file_cmp}
use Rattle.raft_log_record_items.specs.declared.entry.EntryIndex.{EntryIndex}
use Rattle.raft_log_extents.specs.declared.place.Place.{Place}
use Rattle.raft_log_extents.specs.Counts.{passing, sized}
use Rattle.raft_log_extents.specs.Entries.{entry_of, queue_of}
use Rattle.raft_log_memtable_index.specs.Shown.{Shown}
use Rattle.raft_log_memtable_index.specs.Listing.{rewritten_values, ListsAll}

-- the first index, if the table has entries
abbrev pub first_of : Shown → Option ℕ
first_of v = if nat_lt 0 (length v.places) then Some v.first else None

-- the last index, if the table has entries
abbrev pub last_of : Shown → Option ℕ
last_of v = if nat_lt 0 (length v.places) then Some (v.first + (length v.places - 1)) else None

-- the entry at index `i`, with its place and queue, if the table has it
abbrev pub entry_at : Shown → ℕ → Option EntryIndex
entry_at v i =
    if nat_le v.first i
    then option_map (entry_of (queue_of (nat_lt (i - v.first) v.rewritten)) i)
    (slice_get v.places (i - v.first))
    else None

-- the entries at these places, which begin at position `n` in the table, with their indexes and queues
abbrev pub entries_from : Shown → ℕ → List Place → List EntryIndex
entries_from v n [] = []
entries_from v n (p ∷ ps) =
    entry_of (queue_of (nat_lt n v.rewritten)) (v.first + n) p ∷ entries_from v (n + 1) ps

-- the places of the entries from index `begin` on, below `end`
abbrev pub places_between : Shown → ℕ → ℕ → List Place
places_between v begin end = take (end - begin) (drop (begin - v.first) v.places)

-- The entries from index `begin` on, below `end`: always the first one, and further ones as long as the total length is
-- at most `max`. Without a limit (`None`), these are all of them.
abbrev pub fetched : Shown → ℕ → ℕ → Option ℕ → List EntryIndex
fetched v begin end max =
    entries_from v (begin - v.first)
    (take (sized max (places_between v begin end)) (places_between v begin end))

-- the entries in Append that come before the first one in a file past the gate
abbrev pub appended_entries : Shown → ℕ → List EntryIndex
appended_entries v gate =
    entries_from v v.rewritten (take (passing gate (drop v.rewritten v.places)) (drop v.rewritten v.places))

-- the entries in Rewrite
abbrev pub rewritten_entries : Shown → List EntryIndex
rewritten_entries v = entries_from v 0 (take v.rewritten v.places)

-- Whether there is a place, and its file in this queue isn't after `gate`. In the order of files, all files of Append
-- are after all files of Rewrite.
abbrev pub is_up_to : FileId → LogQueue → Option Place → Bool
is_up_to gate queue None = false
is_up_to gate queue (Some p) = is_le (file_cmp (record { queue = queue; seq = p.file }) gate)

-- whether the table has at least `n` entries, and the `n`th one is in a file up to `gate`; true if `n` is 0
abbrev pub has_before : Shown → FileId → ℕ → Bool
has_before v gate zero = true
has_before v gate (suc n) = is_up_to gate (queue_of (nat_lt n v.rewritten)) (slice_get v.places n)

-- A read of the entries from index `begin` on, below `end`, appended them to `old`, as far as `max` allows. The result
-- is `new`, and `count` is how many entries were appended.
abbrev pub Fetches : Shown → ℕ → ℕ → Option ℕ → List EntryIndex → List EntryIndex → ℕ → Type 0
Fetches v begin end max old new count =
    (new ≡ old ++ fetched v begin end max) × (count ≡ sized max (places_between v begin end))

-- the table has an entry at each index from `begin` on, below `end`
abbrev pub AreIn : Shown → ℕ → ℕ → Type 0
AreIn v begin end = begin < end → (v.first ≤ begin) × (end ≤ v.first + length v.places)

-- Why reading entries from `begin` on, below `end`, fails. Reading an empty range never fails.
-- - `EntryNotFound`: the table has no entries, or its entries start at or before `begin` and end before `end`.
-- - `EntryCompacted`: the table's first entry is after `begin`.
-- - `Memory`: memory ran out, and the table has all these entries.
abbrev pub FetchRefused : Shown → ℕ → ℕ → Error → Type 0
FetchRefused v begin end error =
    (begin < end)
    × (((error ≡ errors.EntryNotFound) × (length v.places ≡ 0))
    ⊎ (((error ≡ errors.EntryCompacted) × (0 < length v.places) × (begin < v.first))
    ⊎ (((error ≡ errors.EntryNotFound) × (v.first ≤ begin) × (v.first + length v.places < end))
    ⊎ ((error ≡ errors.Memory) × (v.first ≤ begin) × (end ≤ v.first + length v.places)))))

-- `n` is the number of the table's entries and values in Rewrite, at most 2 ^ 64 - 1
abbrev pub StandIn : Shown → ℕ → Type 0
StandIn v n = (pairs : List (List ℕ × List ℕ)) × ListsAll (rewritten_values v) pairs
    × (n ≡ min (v.rewritten + length pairs) (2 ^ 64 - 1))

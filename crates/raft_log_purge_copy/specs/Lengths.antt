-- When a record that a purge writes is too long. The record has entries and keys of one group, or the owed tombstones.
use Rattle.std.specs.Prelude.{◌≡◌, ◌⊎◌, ◌<◌, ◌≤◌, ◌^◌, ℕ, List, [], ◌∷◌, ◌++◌, length, map, Some}
use Rattle.std.specs.Cmp.Lexicographic.{slice_cmp}
use Rattle.std.specs.List.Sorted.{IsStrictlySortedBy}
use Rattle.std.specs.Map.{keys_of}
use Rattle.std.specs.Ordering.{nat_cmp}
use Rattle.raft_log_record_items.specs.declared.item.LogItem.{LogItem}
use Rattle.raft_log_record_items.specs.Items.{put_item}
use Rattle.raft_log_model_laws.specs.Meaning.Slot.{Key}
use Rattle.raft_log_model_laws.specs.Meaning.Content.{Value}
use Rattle.raft_log_record_frames.specs.Record.{record_len}
use Rattle.raft_log_record_frames.specs.declared.status.AtomicGroupStatus.{AtomicGroupStatus}
use Rattle.raft_log_record_frames.specs.Marking.{mark_item}
use Rattle.raft_log_record_batches.specs.Batch.{Batch, max_entries_len}
use Rattle.raft_log_record_batches.specs.Entries.{RisesFrom, bytes_len, entries_items, joined}
use Rattle.raft_log_record_batches.specs.Places.{bytes_in}
use Rattle.raft_log_memtable_index.specs.Shown.{Shown}
use Rattle.raft_log_engine_laws.specs.EngineState.{LogMap}
use Rattle.raft_log_purge_copy.specs.Entries.{AreEntryBytes, max_piece}
use Rattle.raft_log_purge_copy.specs.Owed.{SaysMarks}

-- each of these keys of group `g` has this value in the contents `m`
abbrev pub AreValuesIn : LogMap → ℕ → List (List ℕ × List ℕ) → Type 0
AreValuesIn m g [] = Unit {0}
AreValuesIn m g (e ∷ es) = (m g (Key e.0) ≡ Some (Value e.1)) × AreValuesIn m g es

-- the list is empty, or has one mark of an atomic group
abbrev pub IsOneMark : List LogItem → Type 0
IsOneMark mark = (mark ≡ [])
    ⊎ ((number : ℕ) × (status : AtomicGroupStatus) × (mark ≡ mark_item number status ∷ []))

-- `entries` are the bytes `bytes` of some entries, joined. `items` are the following items of group `g`, in this order:
-- - entries from index `first` on, one after another, with the bytes `bytes`
-- - the keys `pairs` with their values
-- - the mark
pub record AreOfGroup (g first : ℕ) (bytes : List (List ℕ)) (pairs : List (List ℕ × List ℕ)) (mark : List LogItem)
    (items : List LogItem) (entries : List ℕ) : Type 0 where
  pub indexes : List ℕ
  pub rise : RisesFrom first indexes
  pub are : items ≡ (entries_items g 0 indexes bytes ++ map (λ e. put_item g e.0 e.1) pairs) ++ mark
  pub joins : entries ≡ joined bytes

-- entries with these bytes fit in one record: they have at most 131,072 bytes together, or there is at most one
abbrev pub AreOnePiece : List (List ℕ) → Type 0
AreOnePiece bytes = (length bytes ≤ 1) ⊎ (bytes_len bytes ≤ max_piece)

-- the batch has no more bytes of entries than one record may have
abbrev pub HasOnePiece : Batch → Type 0
HasOnePiece b = AreOnePiece (bytes_in b)

-- The items are those of one record that has only what one group has in the contents `m`:
-- - entries from some index on, no more than one record may have
-- - keys with their values, none of them twice
-- - at most one mark of an atomic group
pub record AreOfMap (m : LogMap) (items : List LogItem) (entries : List ℕ) : Type 0 where
  pub group : ℕ
  pub first : ℕ
  pub bytes : List (List ℕ)
  pub pairs : List (List ℕ × List ℕ)
  pub mark : List LogItem
  pub one : IsOneMark mark
  pub made : AreOfGroup group first bytes pairs mark items entries
  pub piece : AreOnePiece bytes
  pub run : AreEntryBytes m group first bytes
  pub values : AreValuesIn m group pairs
  pub once : IsStrictlySortedBy (slice_cmp nat_cmp) (keys_of pairs)

-- A record of these items would be too long. Its entries have more bytes than a batch may have, or the record has
-- 2 ^ 56 bytes or more.
abbrev pub IsTooLong : List LogItem → List ℕ → Type 0
IsTooLong items entries = (max_entries_len < length entries) ⊎ (2 ^ 56 ≤ record_len items entries)

-- some record of what one group has in the contents `m` would be too long
abbrev pub HasLongGroup : LogMap → Type 0
HasLongGroup m =
    (items : List LogItem) × (entries : List ℕ) × AreOfMap m items entries × IsTooLong items entries

-- the record of the owed tombstones would have 2 ^ 56 bytes or more
abbrev pub OwesTooMuch : (ℕ → Shown) → Type 0
OwesTooMuch v = (b : Batch) × SaysMarks v b × (2 ^ 56 ≤ record_len b.items b.entries)

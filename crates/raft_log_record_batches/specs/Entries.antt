-- Entries that are added to a batch: their indexes and their bytes. `old` is a batch before an addition, and `new` the
-- batch after it.
use Rattle.std.specs.Prelude.{◌≡◌, ◌⊎◌, ℕ, ◌+◌, ◌≤◌, ◌<◌, ◌^◌, ◌==◌, if◌then◌else◌, codes, List, [], ◌∷◌, ◌++◌, length, map, sum_by, flat_map, Option, All}
use Rattle.std.specs.Borrow.{Bor}
use Rattle.std.specs.Fmt.{decimal}
use Rattle.std.specs.String.{string_bytes}
use Rattle.raft_log_record_items.specs.declared.entry.EntryIndex.{EntryIndex}
use Rattle.raft_log_record_base.specs.declared.errors.Error.{Error}
use Rattle.raft_log_record_base.specs.declared.errors.Error.TheVariants as errors
use Rattle.raft_log_record_items.specs.declared.item.LogItemContent.TheVariants as contents
use Rattle.raft_log_record_items.specs.declared.item.LogItem.{LogItem}
use Rattle.raft_log_record_items.specs.Message.{IsReadBack}
use Rattle.raft_log_record_items.specs.Run.{unplaced_entry}
use Rattle.raft_log_record_items.specs.Placed.{laid_run}
use Rattle.raft_log_record_batches.specs.Batch.{Batch, Becomes, max_entries_len}

-- the indexes rise by one, starting at `i`
abbrev pub RisesFrom : ℕ → List ℕ → Type 0
RisesFrom i [] = Unit {0}
RisesFrom i (x ∷ xs) = (x ≡ i) × RisesFrom (i + 1) xs

-- the indexes rise by one, and none is 2 ^ 64 - 1 or more
abbrev pub IsIndexRun : List ℕ → Type 0
IsIndexRun [] = Unit {0}
IsIndexRun (x ∷ xs) = RisesFrom x (x ∷ xs) × (x + length (x ∷ xs) < 2 ^ 64)

-- there are as many indexes as entries, and the indexes rise by one and are below 2 ^ 64 - 1
abbrev pub IsRunWith : List ℕ → List (List ℕ) → Type 0
IsRunWith indexes entries = (length indexes ≡ length entries) × IsIndexRun indexes

-- one entry for each index, with the length of the bytes at the same position; they are not written to a file yet
abbrev pub entries_of : List ℕ → List (List ℕ) → List EntryIndex
entries_of [] bytes = []
entries_of (i ∷ is) [] = []
entries_of (i ∷ is) (b ∷ bs) = unplaced_entry i (length b) ∷ entries_of is bs

-- the item with these entries of group `group`, whose bytes begin at `offset` in the batch's entry block
abbrev pub entries_item : ℕ → ℕ → List ℕ → List (List ℕ) → LogItem
entries_item group offset indexes entries =
    record {
      raft_group_id = group;
      content = contents.EntryIndexes (laid_run offset (entries_of indexes entries));
    }

-- the bytes of the entries, one after another
abbrev pub joined : List (List ℕ) → List ℕ
joined entries = flat_map (λ e. e) entries

-- the items that a batch gets for these entries of group `group`: one, or none if there are no entries
abbrev pub entries_items : ℕ → ℕ → List ℕ → List (List ℕ) → List LogItem
entries_items group offset indexes [] = []
entries_items group offset indexes (x ∷ xs) = entries_item group offset indexes (x ∷ xs) ∷ []

-- the batch with these entries of group `group` added at the end
abbrev pub with_entries : Batch → ℕ → List ℕ → List (List ℕ) → Batch
with_entries b group indexes entries =
    record b {
      items = b.items ++ entries_items group (length b.entries) indexes entries;
      entries = b.entries ++ joined entries;
    }

-- these entries of group `group` were added to the batch at the end; apart from capacities, nothing else changed
abbrev pub AddsEntries : Batch → Batch → ℕ → List ℕ → List (List ℕ) → Type 0
AddsEntries old new group indexes entries = Becomes (with_entries old group indexes entries) new

-- These `entries` of group `group` were added to the batch. `index` and `spelling` give the index and the bytes of
-- each.
abbrev pub AddsRun : {E : Type 0} → (E → ℕ) → (E → List ℕ) → Batch → Batch → ℕ → List E → Type 0
AddsRun index spelling old new group entries =
    AddsEntries old new group (map index entries) (map spelling entries)

-- the total length of these entries in bytes
abbrev pub bytes_len : List (List ℕ) → ℕ
bytes_len entries = sum_by (λ e. length e) entries

-- each of these messages is encoded and decoded again without a change
abbrev pub AreReadBack : {M : Type 0} → (M → List ℕ) → (List ℕ → Option M) → List M → Type 0
AreReadBack spelling reading messages = All (IsReadBack spelling reading) messages

-- the total length in bytes of what `spelling` gives for these entries
abbrev pub spelled_len : {E : Type 0} → (E → List ℕ) → List E → ℕ
spelled_len spelling entries = bytes_len (map spelling entries)

-- adding the bytes of these entries to the batch stays within the limit on the bytes of entries
abbrev pub MayHold : Batch → List (List ℕ) → Type 0
MayHold b entries = length b.entries + bytes_len entries ≤ max_entries_len

-- The text of the error if the indexes aren't a run with one index for each entry. `indexes` and `entries` are the
-- numbers of indexes and of entries.
abbrev pub run_refusal : ℕ → ℕ → List ℕ
run_refusal indexes entries =
    if indexes == entries
    then codes "entry indexes that don't rise by one, or of which one is 18446744073709551615"
    else decimal indexes ++ codes " indexes for " ++ decimal entries ++ codes " entries"

-- Why adding these entries to a batch with `held` bytes of entries fails. The error is `InvalidArgument` if the indexes
-- aren't a run with one index for each entry. Otherwise it is `Full`, if the bytes would exceed the limit. It may
-- always be `Memory`.
abbrev pub IsEntriesRefusal : Error → ℕ → List ℕ → List (List ℕ) → Type 0
IsEntriesRefusal errors.Memory held indexes entries = Unit {0}
IsEntriesRefusal (errors.InvalidArgument text) held indexes entries =
    (IsRunWith indexes entries → ⊥) × (string_bytes text ≡ run_refusal (length indexes) (length entries))
IsEntriesRefusal errors.Full held indexes entries =
    IsRunWith indexes entries × (max_entries_len < held + bytes_len entries)
IsEntriesRefusal _ held indexes entries = ⊥

-- Why adding these `entries` to a batch with `held` bytes of entries fails. Their indexes aren't a run, the bytes would
-- exceed the limit, or memory ran out. `index` and `spelling` give the index and the bytes of each entry.
abbrev pub IsMessagesRefusal : {E : Type 0} → (E → ℕ) → (E → List ℕ) → Error → ℕ → List E → Type 0
IsMessagesRefusal index spelling e held entries =
    IsEntriesRefusal e held (map index entries) (map spelling entries)

-- why adding these `entries` to the batch `b` fails, as in `IsMessagesRefusal`
abbrev pub FailsToAddEntries : {E : Type 0} → (E → ℕ) → (E → List ℕ) → Error → Batch → List E → Type 0
FailsToAddEntries index spelling e b entries = IsMessagesRefusal index spelling e (length b.entries) entries

-- Why indexes for `count` entries are rejected: they are not `count` indexes that rise by one, below 2 ^ 64 - 1. The
-- error may also be `Memory`.
abbrev pub IsRunRefusal : Error → List ℕ → ℕ → Type 0
IsRunRefusal errors.Memory indexes count = Unit {0}
IsRunRefusal (errors.InvalidArgument text) indexes count =
    (((length indexes ≡ count) × IsIndexRun indexes) → ⊥)
    × (string_bytes text ≡ run_refusal (length indexes) count)
IsRunRefusal _ indexes count = ⊥

-- the error is `Memory`, or `Full` because `len` bytes are more than `most`
abbrev pub IsRoomRefusal : Error → ℕ → ℕ → Type 0
IsRoomRefusal e most len = (e ≡ errors.Memory) ⊎ ((e ≡ errors.Full) × (most < len))

-- Why the bytes of `messages` aren't appended to `old`: `Memory`, or `Full` because the sum would be more than `most`
-- bytes.
abbrev pub DoesNotFit : {M : Type 0} → (M → List ℕ) → Error → ℕ → List ℕ → List M → Type 0
DoesNotFit spelling e most old messages = IsRoomRefusal e most (length old + spelled_len spelling messages)

-- the indexes of these entries
abbrev pub indexes_of : List EntryIndex → List ℕ
indexes_of entries = map (λ e. e.index) entries

-- Why two batches with these bytes of entries aren't merged: `Memory`, or `Full` because together the entries exceed
-- the limit.
abbrev pub IsMergeRefusal : Error → List ℕ → List ℕ → Type 0
IsMergeRefusal e entries others = IsRoomRefusal e max_entries_len (length entries + length others)

-- the bytes of each of these slices
abbrev pub slices_bytes : List (Bor (List ℕ)) → List (List ℕ)
slices_bytes slices = map (λ s. s.now) slices

-- one entry for each index, with the length of the slice at the same position; the slices' bytes follow one another in
-- the block, from `offset` on
abbrev pub laid_slices : ℕ → List EntryIndex → List (Bor (List ℕ)) → List EntryIndex
laid_slices offset indexes slices = laid_run offset (entries_of (indexes_of indexes) (slices_bytes slices))

-- entries of group `group` with these indexes, whose bytes are these slices, were added to the batch
abbrev pub AddsSlices : Batch → Batch → ℕ → List EntryIndex → List (Bor (List ℕ)) → Type 0
AddsSlices old new group indexes slices = AddsEntries old new group (indexes_of indexes) (slices_bytes slices)

-- Why adding entries with these indexes and slices to the batch `b` fails: `InvalidArgument`, `Full` or `Memory`.
abbrev pub IsSlicesRefusal : Error → Batch → List EntryIndex → List (Bor (List ℕ)) → Type 0
IsSlicesRefusal e b indexes slices =
    IsEntriesRefusal e (length b.entries) (indexes_of indexes) (slices_bytes slices)

-- one entry for each of `entries`, with the index at the same position, and the length of the bytes that `spelling`
-- gives for it
abbrev pub sized : {E : Type 0} → (E → List ℕ) → List EntryIndex → List E → List EntryIndex
sized spelling indexes entries = entries_of (indexes_of indexes) (map spelling entries)

-- One entry for each of `entries`, with the index that `index` gives for it, and the length of the bytes that
-- `spelling` gives. The bytes follow one another in the block, from `offset` on.
abbrev pub laid_messages : {E : Type 0} → (E → ℕ) → (E → List ℕ) → ℕ → List E → List EntryIndex
laid_messages index spelling offset entries =
    laid_run offset (entries_of (map index entries) (map spelling entries))

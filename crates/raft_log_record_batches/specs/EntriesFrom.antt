-- Entries that are added to a batch with consecutive indexes, from `first` on. `texts` are the bytes of each entry.
-- `old` is a batch before an addition, and `new` the batch after it.
use Rattle.std.specs.Prelude.{◌≡◌, ℕ, zero, suc, ◌+◌, List, [], ◌∷◌, ◌++◌, length, Some, slice_get}
use Rattle.raft_log_record_base.specs.declared.errors.Error.{Error}
use Rattle.raft_log_record_items.specs.declared.entry.EntryIndex.{EntryIndex}
use Rattle.raft_log_record_items.specs.Placed.{laid_run}
use Rattle.raft_log_record_batches.specs.Batch.{Batch}
use Rattle.raft_log_record_batches.specs.Entries.{AddsEntries, IsEntriesRefusal, entries_of}

-- `n` indexes that rise by one from `first`
abbrev pub indexes_from : ℕ → ℕ → List ℕ
indexes_from first zero = []
indexes_from first (suc n) = first ∷ indexes_from (first + 1) n

-- indexes that rise by one from `first`, as many as there are texts
abbrev pub indexes_at : ℕ → List (List ℕ) → List ℕ
indexes_at first texts = indexes_from first (length texts)

-- `texts` has an element at position `place`, and `new` is `old` followed by it
pub record AppendsText (texts : List (List ℕ)) (place : ℕ) (old new : List ℕ) : Type 0 where
  pub text : List ℕ
  pub found : slice_get texts place ≡ Some text
  pub appended : new ≡ old ++ text

-- entries of group `group` with these bytes were added to the batch; the first has the index `first`
abbrev pub AddsFrom : Batch → Batch → ℕ → ℕ → List (List ℕ) → Type 0
AddsFrom old new group first texts = AddsEntries old new group (indexes_at first texts) texts

-- Why adding entries with these bytes to a batch with `held` bytes of entries fails. The first new entry has the index
-- `first`.
abbrev pub IsRefusalFrom : Error → ℕ → ℕ → List (List ℕ) → Type 0
IsRefusalFrom e held first texts = IsEntriesRefusal e held (indexes_at first texts) texts

-- why adding entries with these bytes to the batch `b` fails; the first new entry has the index `first`
abbrev pub FailsToAddFrom : Error → Batch → ℕ → List (List ℕ) → Type 0
FailsToAddFrom e b first texts = IsRefusalFrom e (length b.entries) first texts

-- entries with these bytes that aren't written to a file yet; the first has the index `first`
abbrev pub entries_at : ℕ → List (List ℕ) → List EntryIndex
entries_at first texts = entries_of (indexes_at first texts) texts

-- the entries with these bytes, the first at index `first`; the bytes follow one another in the block, from `offset`
-- on
abbrev pub laid_from_index : ℕ → ℕ → List (List ℕ) → List EntryIndex
laid_from_index offset first texts = laid_run offset (entries_at first texts)

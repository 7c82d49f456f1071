-- The owed tombstones as a batch, and calls that add no owed tombstone.
use Rattle.std.specs.Prelude.{◌≡◌, ℕ, true, false, List, [], ◌∷◌, ◌++◌}
use Rattle.raft_log_record_items.specs.declared.entry.EntryIndex.{EntryIndex}
use Rattle.raft_log_record_items.specs.declared.item.LogItem.{LogItem}
use Rattle.raft_log_model_laws.specs.Groups.{of_group}
use Rattle.raft_log_record_frames.specs.Marking.{has_mark_key}
use Rattle.raft_log_record_frames.specs.Meaning.{tagged, tagged_items}
use Rattle.raft_log_record_batches.specs.declared.log_batch.BatchState.TheVariants.{Filling}
use Rattle.raft_log_record_batches.specs.Batch.{Batch}
use Rattle.raft_log_memtable_index.specs.Shown.{Shown}
use Rattle.raft_log_engine_laws.specs.raft_log_memtable.specs.Moves.{owed_compact}
use Rattle.raft_log_memtables.specs.Owing.{AreOwedAt}
use Rattle.raft_log_memtables.specs.declared.mem_tables.MemTables.{MemTables}
use Rattle.raft_log_memtables.specs.Tables.{shown_of}

-- none of the items is a mark of an atomic group
abbrev pub AreNoMarks : List LogItem → Type 0
AreNoMarks [] = Unit {0}
AreNoMarks (x ∷ xs) = (has_mark_key x ≡ false) × AreNoMarks xs

-- The batch is being filled. Its items make the same changes to the same groups as `items`, and none of them is a mark
-- of an atomic group.
pub record SaysSame (items : List LogItem) (b : Batch) : Type 0 where
  pub state : b.state ≡ Filling
  pub plain : AreNoMarks b.items
  pub said : tagged_items {E = EntryIndex} (λ e. e) b.items ≡ tagged_items (λ e. e) items

-- One item was added to the batch `old`, which is `new` now. The added item makes the same change as `x`, and neither
-- is a mark of an atomic group.
pub record AddsSame (old new : Batch) (x : LogItem) : Type 0 where
  pub added : LogItem
  pub items : new.items ≡ old.items ++ added ∷ []
  pub entries : new.entries ≡ old.entries
  pub state : new.state ≡ Filling
  pub plain : has_mark_key added ≡ false
  pub none : has_mark_key x ≡ false
  pub same : tagged {E = EntryIndex} (λ e. e) added ≡ tagged (λ e. e) x

-- The batch is being filled, and has the tombstones that the groups owe, each of them once. It has no entries and no
-- mark of an atomic group.
pub record SaysMarks (v : ℕ → Shown) (b : Batch) : Type 0 where
  pub state : b.state ≡ Filling
  pub none : b.entries ≡ []
  pub plain : AreNoMarks b.items
  pub owed : (g : ℕ) → AreOwedAt (v g) (of_group g (tagged_items (λ e. e) b.items))

-- the group owes the same tombstones in `w` as in `v`: the Clean, the Compact with its index, and the same deletions
pub record OwesSame (v w : Shown) : Type 0 where
  pub cleaned : w.cleaned ≡ v.cleaned
  pub compact : owed_compact w ≡ owed_compact v
  pub deleted : w.deleted ≡ v.deleted

-- The group owes no tombstone in `w` that it didn't owe in `v`: no Clean, no Compact, no deletion of a key. The
-- Compact's index may differ.
pub record OwesNoMore (v w : Shown) : Type 0 where
  pub cleaned : w.cleaned ≡ true → v.cleaned ≡ true
  pub compacted : w.compacted ≡ true → v.compacted ≡ true
  pub deleted : (k : List ℕ) → w.deleted k ≡ true → v.deleted k ≡ true

-- no group owes a tombstone in the tables `w` that it didn't owe in `v`
abbrev pub OweNoMore : (ℕ → Shown) → (ℕ → Shown) → Type 0
OweNoMore v w = (g : ℕ) → OwesNoMore (v g) (w g)

-- the call added no owed tombstone: tables `v` that owe all that `old` owes also owe all that `new` owes
abbrev pub AddsNoMarks : MemTables → MemTables → Type 0
AddsNoMarks old new = (v : ℕ → Shown) → OweNoMore v (shown_of old) → OweNoMore v (shown_of new)

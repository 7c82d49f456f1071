-- The tombstones that the tables owe to Rewrite, as the items of one batch.
use Rattle.std.specs.Prelude.{◌≡◌, ℕ, if◌then◌else◌, List, [], ◌∷◌, ◌++◌, map, Option, Some, None}
use Rattle.raft_log_record_items.specs.declared.entry.EntryIndex.{EntryIndex}
use Rattle.raft_log_record_items.specs.declared.command.Command.TheVariants as commands
use Rattle.raft_log_record_items.specs.declared.item.LogItemContent.TheVariants as contents
use Rattle.raft_log_record_items.specs.declared.item.LogItem.{LogItem}
use Rattle.raft_log_record_items.specs.Items.{del_of, item_of}
use Rattle.raft_log_model_laws.specs.Item.{Item}
use Rattle.raft_log_model_laws.specs.Groups.{of_group}
use Rattle.raft_log_record_frames.specs.declared.marking.Marking.TheVariants.{Unmarked}
use Rattle.raft_log_record_frames.specs.Marking.{marking_of_items}
use Rattle.raft_log_record_frames.specs.Meaning.{tagged_items}
use Rattle.raft_log_memtable_index.specs.Shown.{Shown}
use Rattle.raft_log_memtable_index.specs.Bridge.{marks}
use Rattle.raft_log_memtable_index.specs.Listing.{ListsMarked}
use Rattle.raft_log_memtable.specs.Moves.{owed_compact}
use Rattle.raft_log_memtables.specs.declared.mem_tables.MemTables.{MemTables}
use Rattle.raft_log_memtables.specs.Tables.{shown_of}

-- a Compact of group `g` with this index, or no item if there is no index
abbrev pub compact_items : ℕ → Option ℕ → List LogItem
compact_items g None = []
compact_items g (Some index) = item_of g (contents.Command (commands.Compact index)) ∷ []

-- the Clean and the Compact that group `g` owes, as items
abbrev pub owed_commands : ℕ → Shown → List LogItem
owed_commands g v =
    (if v.cleaned then item_of g (contents.Command commands.Clean) ∷ [] else [])
    ++ compact_items g (owed_compact v)

-- the item that deletes key `k` of group `g`
abbrev pub delete_item : ℕ → List ℕ → LogItem
delete_item g k = item_of g (contents.Kv (del_of k))

-- the Clean and the Compact that group `g` owes, as items, and then a Del for each key in `ks`
abbrev pub owed_items : ℕ → Shown → List (List ℕ) → List LogItem
owed_items g v ks = owed_commands g v ++ map (delete_item g) ks

-- `new` is the list `old` with the tombstones that group `g` owes added at its end, as items
abbrev pub AddsOwed : ℕ → Shown → List LogItem → List LogItem → Type 0
AddsOwed g v old new = (ks : List (List ℕ)) × ListsMarked v.deleted ks × (new ≡ old ++ owed_items g v ks)

-- the items are exactly the tombstones that the table owes, each of them once
abbrev pub AreOwedAt : Shown → List (Item EntryIndex (List ℕ)) → Type 0
AreOwedAt v xs = (ks : List (List ℕ)) × ListsMarked v.deleted ks × (xs ≡ marks v ks)

-- in each group, the items are exactly the tombstones that its table owes, and the batch has no mark of an atomic
-- group
pub record AreOwed (m : MemTables) (items : List LogItem) : Type 0 where
  pub plain : marking_of_items items ≡ Unmarked
  pub owed : (g : ℕ) → AreOwedAt (shown_of m g) (of_group g (tagged_items (λ e. e) items))

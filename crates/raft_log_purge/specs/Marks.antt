-- From which items of earlier batches the owed tombstones came. The record of the tombstones is at most as long as the
-- bound of a record of these items (`MarksTakeNoMore`).
use Rattle.std.specs.Prelude.{◌≡◌, ℕ, true, List}
use Rattle.std.specs.List.{Contains}
use Rattle.raft_log_model_laws.specs.Item.{Item}
use Rattle.raft_log_model_laws.specs.Item.Item.{Clean, Compact, Del}
use Rattle.raft_log_model_laws.specs.Groups.{of_group}
use Rattle.raft_log_record_items.specs.declared.entry.EntryIndex.{EntryIndex}
use Rattle.raft_log_record_items.specs.declared.item.LogItem.{LogItem}
use Rattle.raft_log_record_frames.specs.Meaning.{tagged_items}
use Rattle.raft_log_memtable_index.specs.Shown.{Shown}

-- those of these items that are of group `g`, each without its group's number
abbrev pub said_in : List LogItem → ℕ → List (Item EntryIndex (List ℕ))
said_in items g = of_group g (tagged_items (λ e. e) items)

-- The tombstones that the groups' tables `v` owe came from these items. For each group, the items have:
-- - a Clean, if one is owed
-- - a Compact, of some index, if one is owed
-- - a deletion of each key whose deletion is owed
pub record CameOf (items : List LogItem) (v : ℕ → Shown) : Type 0 where
  pub cleans : (g : ℕ) → (v g).cleaned ≡ true → Contains (said_in items g) Clean
  pub compacts : (g : ℕ) → (v g).compacted ≡ true → (index : ℕ) × Contains (said_in items g) (Compact index)
  pub deletions : (g : ℕ) (k : List ℕ) → (v g).deleted k ≡ true → Contains (said_in items g) (Del k)

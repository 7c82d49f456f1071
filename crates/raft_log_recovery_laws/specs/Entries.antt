-- What holds for each item, or for each entry's location, in a list of items.
use Rattle.std.specs.Prelude.{List, [], ◌∷◌}
use Rattle.raft_log_model_laws.specs.Item.{Item, Record, Tagged, items_of}
use Rattle.raft_log_model_laws.specs.Item.Item.{Run}
use Rattle.raft_log_memtable_index.specs.Shown.{KeyValue}
use Rattle.raft_log_memtable_index.specs.Bridge.{Located}
use Rattle.raft_log_engine_laws.specs.raft_log_block_cache.specs.Stored.{Each}

-- `P` holds for each item in the list, of any group
abbrev pub ItemsHave : {E V : Type 0} → (Item E V → Type 0) → List (Tagged E V) → Type 0
ItemsHave P [] = Unit {0}
ItemsHave P (x ∷ xs) = P x.item × ItemsHave P xs

-- `P` holds for each item of each record
abbrev pub RecordsHave : {E V : Type 0} → (Item E V → Type 0) → List (Record E V) → Type 0
RecordsHave P [] = Unit {0}
RecordsHave P (r ∷ rs) = ItemsHave P (items_of r) × RecordsHave P rs

-- if the item adds entries, `P` holds for the location of each
abbrev pub EntriesHave : (Located → Type 0) → Item Located KeyValue → Type 0
EntriesHave P (Run f ls) = Each P ls
EntriesHave P x = Unit {0}

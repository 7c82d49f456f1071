-- Which items of a log a dump lists.
use Rattle.std.specs.Prelude.{◌≡◌, ⊤, ℕ, Option, None, Some}
use Rattle.raft_log_record_items.specs.declared.item.LogItem.{LogItem}

-- the dump lists the item: it is of the group that the dump names, or the dump names none
abbrev pub IsListed : Option ℕ → LogItem → Type 0
IsListed None item = ⊤
IsListed (Some group) item = item.raft_group_id ≡ group

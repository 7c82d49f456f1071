use Rattle.std.proofs.Common.{◌≡◌, ◌++◌, take, flat_map, map}
use Rattle.raft_log_record_base.specs.Grammar.{Times}
use Rattle.raft_log_record_items.specs.Items.{IsItem}
use Rattle.raft_log_record_items.specs.Writing.{item_bytes, plain_item}
use Rattle.raft_log_record_items.proofs.items.append_each.Given as goal

-- the items so far stand behind what was there, each spelled
abbrev pub invariant-loop-item : goal.invariant-loop-item
invariant-loop-item l = (l.out.items ≡ l.fn.out.items ++ flat_map item_bytes (take l.item-index l.items))
    × Times IsItem l.item-index (flat_map item_bytes (take l.item-index l.items)) (map plain_item (take l.item-index l.items))

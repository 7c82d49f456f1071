use Rattle.std.proofs.Common.{◌≡◌, ◌++◌, map}
use Rattle.std.specs.Vec.Iter.{into_iter_items}
use Rattle.raft_log_memtables.specs.Owing.{delete_item}
use Rattle.raft_log_memtables.proofs.group_table.GroupTable.add_deletes.Given as goal

-- with those that are left, the items are all that are to come
abbrev pub invariant-loop-key : goal.invariant-loop-key
invariant-loop-key l =
    l.items.items ++ map (delete_item l.group) (into_iter_items l.key-iterator) ≡ l.fn.items.items ++ map (delete_item l.group) l.fn.keys.items

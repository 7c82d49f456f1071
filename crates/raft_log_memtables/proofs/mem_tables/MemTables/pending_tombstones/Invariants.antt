use Rattle.std.proofs.Common.{List, ◌++◌}
use Rattle.raft_log_record_items.specs.declared.item.LogItem.{LogItem}
use Rattle.raft_log_memtables.proofs.Owed.{OwesAll}
use Rattle.raft_log_memtables.proofs.mem_tables.MemTables.pending_tombstones.Given as goal

-- with what the tables that are left owe, the items are what all tables owe
abbrev pub invariant-loop-group : goal.invariant-loop-group
invariant-loop-group l = (ys : List LogItem) → OwesAll l.group-iterator ys → OwesAll l.fn.self.groups.entries (l.items.items ++ ys)

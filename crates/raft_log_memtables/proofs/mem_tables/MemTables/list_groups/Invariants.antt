use Rattle.std.proofs.Common.{◌≡◌, ◌++◌}
use Rattle.raft_log_memtables.proofs.Groups.{group_list}
use Rattle.raft_log_memtables.proofs.mem_tables.MemTables.list_groups.Given as goal

-- with those that are left the list is that of all tables
abbrev pub invariant-loop-group : goal.invariant-loop-group
invariant-loop-group l = l.groups.items ++ group_list l.all l.group-iterator ≡ group_list l.all l.fn.self.groups.entries

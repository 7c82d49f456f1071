use Rattle.std.proofs.Common.{◌≡◌, false}
use Rattle.raft_log_memtables.proofs.Groups.{group_list}
use Rattle.raft_log_memtables.proofs.mem_tables.MemTables.is_empty.Given as goal

-- no group that was seen counts
abbrev pub invariant-loop-table : goal.invariant-loop-table
invariant-loop-table l = group_list false l.table-iterator ≡ group_list false l.fn.self.groups.entries

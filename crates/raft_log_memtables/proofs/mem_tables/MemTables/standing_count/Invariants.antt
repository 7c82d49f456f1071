use Rattle.raft_log_memtables.proofs.Counting.{HasCounted}
use Rattle.raft_log_memtables.proofs.mem_tables.MemTables.standing_count.Given as goal

-- so much stands of the tables that were seen
abbrev pub invariant-loop-table : goal.invariant-loop-table
invariant-loop-table l = HasCounted l.fn.self.groups.entries l.table-iterator l.count

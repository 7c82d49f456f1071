use Rattle.raft_log_memtables.proofs.Counting.{HasCounted}
use Rattle.raft_log_memtables.proofs.Leasts.{HasLeast}
use Rattle.raft_log_memtables.proofs.mem_tables.MemTables.min_file_and_live_count.Given as goal

-- so it is of the tables that were seen
abbrev pub invariant-loop-table : goal.invariant-loop-table
invariant-loop-table l = HasLeast l.fn.queue l.fn.limit l.fn.self l.table-iterator l.least × HasCounted l.fn.self.groups.entries l.table-iterator l.standing

use Rattle.raft_log_memtables.proofs.Leasts.{HasLeast}
use Rattle.raft_log_memtables.proofs.mem_tables.MemTables.least_file.Given as goal

-- so it is of the tables that were seen
abbrev pub invariant-loop-table : goal.invariant-loop-table
invariant-loop-table l = HasLeast l.fn.queue l.fn.limit l.fn.self l.table-iterator l.least

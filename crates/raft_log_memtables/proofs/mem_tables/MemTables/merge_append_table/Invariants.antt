use Rattle.raft_log_memtables.specs.Tables.{IsAtRest}
use Rattle.raft_log_memtables.proofs.Segments.{Merging}
use Rattle.raft_log_memtables.proofs.mem_tables.MemTables.merge_append_table.Given as goal

-- some groups have what both queues come to
abbrev pub invariant-loop-group : goal.invariant-loop-group
invariant-loop-group l = record {
  merges : Merging l.fn.self l.fn.append l.self l.group-iterator;
  rest : IsAtRest l.fn.self → IsAtRest l.self;
}

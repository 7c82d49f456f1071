use Rattle.raft_log_memtables.specs.Tables.{IsAtRest}
use Rattle.raft_log_memtables.proofs.Segments.{Joining}
use Rattle.raft_log_memtables.proofs.mem_tables.MemTables.merge_newer_neighbor.Given as goal

-- some groups have what both segments come to
abbrev pub invariant-loop-group : goal.invariant-loop-group
invariant-loop-group l = record {
  joins : Joining l.fn.self l.fn.newer l.self l.group-iterator;
  rest : IsAtRest l.fn.self → IsAtRest l.self;
}

use Rattle.std.proofs.Common.{◌≡◌, ◌++◌}
use Rattle.std.specs.Vec.Iter.{into_iter_items}
use Rattle.raft_log_memtables.specs.Tables.{IsAtRest}
use Rattle.raft_log_replay_context.specs.Noting.{SettlesAll}
use Rattle.raft_log_replay_context.proofs.settle.settle_all.Given as goal

-- the groups so far count
abbrev pub invariant-loop-parts : goal.invariant-loop-parts
invariant-loop-parts l = record {
  all : l.yielded ++ into_iter_items l.parts-iterator ≡ l.fn.done.items;
  taken : SettlesAll l.yielded l.fn.tables l.tables;
  rest : IsAtRest l.fn.tables → IsAtRest l.tables;
}

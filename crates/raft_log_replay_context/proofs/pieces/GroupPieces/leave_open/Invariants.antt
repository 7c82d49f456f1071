use Rattle.std.proofs.Common.{◌≡◌, map}
use Rattle.std.specs.Vec.Iter.{into_iter_items}
use Rattle.raft_log_replay_context.specs.OpenGroups.{all_pushed, begun_of}
use Rattle.raft_log_replay_context.proofs.pieces.GroupPieces.leave_open.Given as goal

-- the groups so far are open, and the others come behind them
abbrev pub invariant-loop-group : goal.invariant-loop-group
invariant-loop-group l = record {
  rest : all_pushed l.self.left_open (map begun_of (into_iter_items l.group-iterator)) ≡ all_pushed l.fn.self.left_open l.fn.later;
  heads : l.self.heads ≡ l.fn.self.heads;
}

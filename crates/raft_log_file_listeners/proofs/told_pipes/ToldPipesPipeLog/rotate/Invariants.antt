-- Whoever is told changes no pipe, and was told of so many files as were passed.
use Rattle.std.proofs.Common.{◌≡◌, ◌-◌, ◌≤◌}
use Rattle.raft_log_dual_pipes.specs.Telling.{Hears, begun}
use Rattle.raft_log_file_listeners.proofs.told_pipes.ToldPipesPipeLog.rotate.Given as goal

abbrev pub invariant-loop-seq : goal.invariant-loop-seq
invariant-loop-seq g l = record {
  pipes : l.self.pipes ≡ l.initial.self.pipes;
  behind : l.before ≤ l.seq;
  most : l.seq - l.before ≤ l.seq-end - l.before;
  told : Hears g.E.EventListener.hears (begun l.fn.queue l.before (l.seq - l.before)) l.initial.self.listener l.self.listener;
}

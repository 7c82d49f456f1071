-- So many files were told as were passed.
use Rattle.std.proofs.Common.{◌-◌, ◌≤◌}
use Rattle.raft_log_dual_pipes.specs.Telling.{Hears, begun}
use Rattle.raft_log_file_listeners.proofs.told_pipes.tell_new_files.Given as goal

abbrev pub invariant-loop-seq : goal.invariant-loop-seq
invariant-loop-seq g l = record {
  behind : l.before ≤ l.seq;
  most : l.seq - l.before ≤ l.last - l.before;
  told : Hears g.E.EventListener.hears (begun l.queue l.before (l.seq - l.before)) l.initial.listener l.listener;
}

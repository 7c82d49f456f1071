-- Of the files before this one no record waits.
use Rattle.std.proofs.Common.{◌≡◌, ◌+◌, ◌≤◌, drop, length}
use Rattle.raft_log_file_listeners.specs.Active.{first_waiting}
use Rattle.raft_log_file_listeners.proofs.purge_hook.PurgeHook.first_waiting.Given as goal

abbrev pub invariant-loop-place : goal.invariant-loop-place
invariant-loop-place l = record {
  within : l.place ≤ length l.self.waiting;
  none : first_waiting l.self.first l.self.waiting ≡ first_waiting (l.self.first + l.place) (drop l.place l.self.waiting);
}

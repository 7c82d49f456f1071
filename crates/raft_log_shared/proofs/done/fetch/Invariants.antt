use Rattle.std.proofs.Common.{◌≡◌}
use Rattle.raft_log_shared.proofs.done.fetch.Given as goal

-- nothing was removed yet
abbrev pub invariant-loop-index : goal.invariant-loop-index
invariant-loop-index g l = l.done.items ≡ l.fn.done.items

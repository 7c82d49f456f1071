use Rattle.std.proofs.Common.{◌≡◌, ◌++◌, drop}
use Rattle.raft_log_judge.proofs.change.copied_batch.Given as goal

-- what is copied, and what is left
abbrev pub invariant-loop-change : goal.invariant-loop-change
invariant-loop-change l = l.copy ++ drop l.change-index l.changes ≡ l.changes

use Rattle.std.proofs.Common.{◌≡◌, ◌++◌, drop}
use Rattle.raft_log_judge.proofs.change.copied_batches.Given as goal

-- what is copied, and what is left
abbrev pub invariant-loop-batch : goal.invariant-loop-batch
invariant-loop-batch l = l.copy ++ drop l.batch-index l.batches ≡ l.batches

use Rattle.std.proofs.Common.{take}
use Rattle.raftlog.specs.Batches.{HasChanges}
use Rattle.raftlog.proofs.batches.log_batch.Given as goal

abbrev pub invariant-loop-change : goal.invariant-loop-change
invariant-loop-change l = HasChanges l.batch (take l.change-index l.changes)

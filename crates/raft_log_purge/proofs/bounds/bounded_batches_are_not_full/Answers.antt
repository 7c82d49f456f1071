use Rattle.raft_log_purge.proofs.Writing.{bounded_batches_are_not_full}
use Rattle.raft_log_purge.proofs.bounds.bounded_batches_are_not_full.Goals as goal

pub returns : goal.returns
returns c = bounded_batches_are_not_full

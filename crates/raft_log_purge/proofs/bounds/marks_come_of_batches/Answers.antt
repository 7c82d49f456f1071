use Rattle.raft_log_purge.proofs.Coming.{marks_come_of_batches}
use Rattle.raft_log_purge.proofs.bounds.marks_come_of_batches.Goals as goal

pub returns : goal.returns
returns c = marks_come_of_batches

use Rattle.raft_log_record_batches.proofs.BoundLemmas.{additions_raise}
use Rattle.raft_log_record_batches.proofs.bounds.additions_raise.Goals as goal

pub returns : goal.returns
returns c = additions_raise

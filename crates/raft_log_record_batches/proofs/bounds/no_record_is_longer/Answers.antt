use Rattle.raft_log_record_batches.proofs.Lengths.{no_record_is_longer}
use Rattle.raft_log_record_batches.proofs.bounds.no_record_is_longer.Goals as goal

pub returns : goal.returns
returns c = no_record_is_longer

use Rattle.raft_log_record_batches.proofs.BoundLemmas.{bounded_records_are_made}
use Rattle.raft_log_record_batches.proofs.bounds.bounded_records_are_made.Goals as goal

pub returns : goal.returns
returns c = bounded_records_are_made

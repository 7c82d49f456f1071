use Rattle.raft_log_record_batches.proofs.Worked.{worked_records}
use Rattle.raft_log_record_batches.proofs.bounds.worked_records.Goals as goal

pub returns : goal.returns
returns c = worked_records

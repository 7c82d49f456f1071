use Rattle.raft_log_dual_pipes.proofs.Signatures.{old_records_begin_no_record}
use Rattle.raft_log_dual_pipes.proofs.recycling.old_records_begin_no_record.Goals as goal

pub returns : goal.returns
returns c = old_records_begin_no_record

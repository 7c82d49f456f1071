use Rattle.raft_log_purge.proofs.Groups.{modest_logs_make_records}
use Rattle.raft_log_purge.proofs.bounds.modest_logs_make_records.Goals as goal

pub returns : goal.returns
returns c = modest_logs_make_records

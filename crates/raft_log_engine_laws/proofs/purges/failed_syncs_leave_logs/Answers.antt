use Rattle.raft_log_engine_laws.proofs.Settling.{failed_sync}
use Rattle.raft_log_engine_laws.proofs.purges.failed_syncs_leave_logs.Goals as goal

pub returns : goal.returns
returns c = failed_sync

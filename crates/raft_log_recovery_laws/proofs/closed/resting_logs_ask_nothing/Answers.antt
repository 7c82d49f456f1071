use Rattle.raft_log_recovery_laws.proofs.RestingFiles.{resting_logs_ask_nothing}
use Rattle.raft_log_recovery_laws.proofs.closed.resting_logs_ask_nothing.Goals as goal

pub returns : goal.returns
returns c = resting_logs_ask_nothing

use Rattle.raft_log_recovery_laws.proofs.Resting.{forked_logs_rest}
use Rattle.raft_log_recovery_laws.proofs.forks.forked_logs_rest.Goals as goal

pub returns : goal.returns
returns c = forked_logs_rest

use Rattle.raft_log_recovery_laws.proofs.Left.{crashed_logs_rest}
use Rattle.raft_log_recovery_laws.proofs.recovered.crashed_logs_rest.Goals as goal

pub returns : goal.returns
returns c = crashed_logs_rest

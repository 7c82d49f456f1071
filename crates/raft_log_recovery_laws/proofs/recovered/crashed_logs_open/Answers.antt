use Rattle.raft_log_recovery_laws.proofs.RecoveredLogs.{crashed_logs_open}
use Rattle.raft_log_recovery_laws.proofs.recovered.crashed_logs_open.Goals as goal

pub returns : goal.returns
returns c = crashed_logs_open

use Rattle.raft_log_recovery_laws.proofs.RecoveredLogs.{read_logs_are_held}
use Rattle.raft_log_recovery_laws.proofs.recovered.read_logs_are_held.Goals as goal

pub returns : goal.returns
returns c = read_logs_are_held

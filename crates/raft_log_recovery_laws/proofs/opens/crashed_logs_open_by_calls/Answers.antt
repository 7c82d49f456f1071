use Rattle.raft_log_recovery_laws.proofs.Outcomes.{crashed_logs_open_by_calls}
use Rattle.raft_log_recovery_laws.proofs.opens.crashed_logs_open_by_calls.Goals as goal

pub returns : goal.returns
returns g c = crashed_logs_open_by_calls _ _

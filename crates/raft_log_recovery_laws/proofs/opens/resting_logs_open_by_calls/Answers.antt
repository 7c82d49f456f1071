use Rattle.raft_log_recovery_laws.proofs.Outcomes.{resting_logs_open_by_calls}
use Rattle.raft_log_recovery_laws.proofs.opens.resting_logs_open_by_calls.Goals as goal

pub returns : goal.returns
returns g c = resting_logs_open_by_calls _ _

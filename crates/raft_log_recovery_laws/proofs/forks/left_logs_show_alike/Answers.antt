use Rattle.raft_log_recovery_laws.proofs.ForkLeft.{left_logs_show_alike}
use Rattle.raft_log_recovery_laws.proofs.forks.left_logs_show_alike.Goals as goal

pub returns : goal.returns
returns g c = left_logs_show_alike _ _

use Rattle.raft_log_recovery_laws.proofs.Running.{crashed_engines_open}
use Rattle.raft_log_recovery_laws.proofs.opens.crashed_engines_open.Goals as goal

pub returns : goal.returns
returns g c = crashed_engines_open _ _

use Rattle.raft_log_recovery_laws.proofs.Directory.{resting_directories_open}
use Rattle.raft_log_recovery_laws.proofs.opens.resting_directories_open.Goals as goal

pub returns : goal.returns
returns g c = resting_directories_open _ _

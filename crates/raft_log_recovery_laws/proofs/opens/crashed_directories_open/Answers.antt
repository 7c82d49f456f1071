use Rattle.raft_log_recovery_laws.proofs.Directory.{crashed_directories_open}
use Rattle.raft_log_recovery_laws.proofs.opens.crashed_directories_open.Goals as goal

pub returns : goal.returns
returns g c = crashed_directories_open _ _

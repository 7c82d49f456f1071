use Rattle.raft_log_recovery_laws.proofs.Bare.{bare_directories_open}
use Rattle.raft_log_recovery_laws.proofs.opens.bare_directories_open.Goals as goal

pub returns : goal.returns
returns g c = bare_directories_open _ _

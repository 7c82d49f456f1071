use Rattle.raft_log_recovery_laws.proofs.ClosedFiles.{closed_engines_reopen}
use Rattle.raft_log_recovery_laws.proofs.closed.closed_engines_reopen.Goals as goal

pub returns : goal.returns
returns g c = closed_engines_reopen _ _

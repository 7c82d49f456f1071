use Rattle.raft_log_recovery_laws.proofs.Leaving.{forks_leave_the_source}
use Rattle.raft_log_recovery_laws.proofs.forks.forks_leave_the_source.Goals as goal

pub returns : goal.returns
returns c = forks_leave_the_source

use Rattle.raft_log_recovery_laws.proofs.Opening.{forks_open_as_their_source}
use Rattle.raft_log_recovery_laws.proofs.forks.forks_open_as_their_source.Goals as goal

pub returns : goal.returns
returns g c = forks_open_as_their_source _ _

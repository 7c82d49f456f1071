use Rattle.raft_log_machine_laws.proofs.LogLaws.{copy_is_log}
use Rattle.raft_log_machine_laws.proofs.log.fork_is_the_same_log.Goals as goal

pub returns : goal.returns
returns g c = copy_is_log g.D.LogImages.readings

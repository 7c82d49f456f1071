use Rattle.raft_log_machine_laws.proofs.LogLaws.{image_is_log}
use Rattle.raft_log_machine_laws.proofs.log.image_is_a_log.Goals as goal

pub returns : goal.returns
returns g c = image_is_log g.D.LogImages.readings

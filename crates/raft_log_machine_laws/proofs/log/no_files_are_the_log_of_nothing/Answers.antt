use Rattle.raft_log_machine_laws.proofs.LogLaws.{nothing_is_log}
use Rattle.raft_log_machine_laws.proofs.log.no_files_are_the_log_of_nothing.Goals as goal

pub returns : goal.returns
returns g c = nothing_is_log g.D.LogImages.readings

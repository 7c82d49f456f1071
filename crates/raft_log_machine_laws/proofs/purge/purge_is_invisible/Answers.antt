use Rattle.raft_log_machine_laws.proofs.PurgeLaws.{invisible}
use Rattle.raft_log_machine_laws.proofs.purge.purge_is_invisible.Goals as goal

pub returns : goal.returns
returns g c = invisible

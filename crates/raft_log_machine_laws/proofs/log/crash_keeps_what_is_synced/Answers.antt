use Rattle.raft_log_machine_laws.proofs.LogLaws.{promise}
use Rattle.raft_log_machine_laws.proofs.log.crash_keeps_what_is_synced.Goals as goal

pub returns : goal.returns
returns g c = promise g.D.LogImages.readings

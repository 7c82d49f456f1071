use Rattle.raft_log_machine_laws.proofs.LogLaws.{promise_later}
use Rattle.raft_log_machine_laws.proofs.log.promise_is_kept_later.Goals as goal

pub returns : goal.returns
returns g c = promise_later g.D.LogImages.readings

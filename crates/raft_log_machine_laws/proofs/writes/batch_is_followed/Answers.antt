use Rattle.raft_log_machine_laws.proofs.StandsLaws.{stands_grown}
use Rattle.raft_log_machine_laws.proofs.writes.batch_is_followed.Goals as goal

pub returns : goal.returns
returns g c = stands_grown

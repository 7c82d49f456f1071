use Rattle.raft_log_machine_laws.proofs.StandsLaws.{stands_carried}
use Rattle.raft_log_machine_laws.proofs.writes.copies_are_followed.Goals as goal

pub returns : goal.returns
returns g c = stands_carried

use Rattle.raft_log_machine_laws.proofs.StandsLaws.{stands_ended}
use Rattle.raft_log_machine_laws.proofs.writes.ended_group_is_followed.Goals as goal

pub returns : goal.returns
returns g c = stands_ended

use Rattle.raft_log_machine_laws.proofs.StandsLaws.{stands_begun, stands_gone_on}
use Rattle.raft_log_machine_laws.proofs.writes.unended_group_is_followed.Goals as goal

pub returns : goal.returns
returns g c = record { begin = stands_begun; middle = stands_gone_on }

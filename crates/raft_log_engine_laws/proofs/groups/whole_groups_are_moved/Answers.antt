use Rattle.raft_log_engine_laws.proofs.Whole.{whole_moved}
use Rattle.raft_log_engine_laws.proofs.groups.whole_groups_are_moved.Goals as goal

pub returns : goal.returns
returns g c = whole_moved

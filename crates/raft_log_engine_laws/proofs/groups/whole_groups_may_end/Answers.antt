use Rattle.raft_log_engine_laws.proofs.Ending.{whole_may_end, whole_noted}
use Rattle.raft_log_engine_laws.proofs.groups.whole_groups_may_end.Goals as goal

pub returns : goal.returns
returns g c = record { ends = whole_may_end; noted = whole_noted }

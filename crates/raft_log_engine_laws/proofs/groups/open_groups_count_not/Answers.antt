use Rattle.raft_log_engine_laws.proofs.LeftOpen.{new_end_no_old}
use Rattle.raft_log_engine_laws.proofs.groups.open_groups_count_not.Goals as goal

pub returns : goal.returns
returns g c = new_end_no_old

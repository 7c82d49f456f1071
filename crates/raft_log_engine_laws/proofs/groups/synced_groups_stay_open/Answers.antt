use Rattle.raft_log_engine_laws.proofs.Writing.{sync_leaves_open}
use Rattle.raft_log_engine_laws.proofs.groups.synced_groups_stay_open.Goals as goal

pub returns : goal.returns
returns c = sync_leaves_open

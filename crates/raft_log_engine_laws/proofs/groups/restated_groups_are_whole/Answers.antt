use Rattle.raft_log_engine_laws.proofs.Restating.{restated_whole}
use Rattle.raft_log_engine_laws.proofs.groups.restated_groups_are_whole.Goals as goal

pub returns : goal.returns
returns c = restated_whole

use Rattle.raft_log_engine_laws.proofs.Taking.{end_over_tables}
use Rattle.raft_log_engine_laws.proofs.groups.rewritten_groups_keep_the_map.Goals as goal

pub returns : goal.returns
returns c = end_over_tables

use Rattle.raft_log_purge_copy.proofs.Grouping.{all_are_past}
use Rattle.raft_log_purge_copy.proofs.laws.rewritten_groups_are_past.Goals as goal

pub returns : goal.returns
returns c = all_are_past

use Rattle.raft_log_model_laws.proofs.TidyLaws.{part_counts}
use Rattle.raft_log_model_laws.proofs.groups.unended_group_counts_not.Goals as goal

pub returns : goal.returns
returns g c = part_counts

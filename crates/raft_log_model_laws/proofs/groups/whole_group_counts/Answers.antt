use Rattle.raft_log_model_laws.proofs.TidyLaws.{whole_counts}
use Rattle.raft_log_model_laws.proofs.groups.whole_group_counts.Goals as goal

pub returns : goal.returns
returns g c = whole_counts

use Rattle.raft_log_model_laws.proofs.TidyLaws.{tidy_whole}
use Rattle.raft_log_model_laws.proofs.groups.whole_group_is_tidy.Goals as goal

pub returns : goal.returns
returns g c = tidy_whole

use Rattle.raft_log_model_laws.proofs.TidyLaws.{tidy_more}
use Rattle.raft_log_model_laws.proofs.groups.no_end_is_tidy.Goals as goal

pub returns : goal.returns
returns g c = tidy_more

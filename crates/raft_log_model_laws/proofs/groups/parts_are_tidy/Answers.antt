use Rattle.raft_log_model_laws.proofs.TidyLaws.{tidy_front, tidy_back}
use Rattle.raft_log_model_laws.proofs.groups.parts_are_tidy.Goals as goal

pub returns : goal.returns
returns g c = record { front = tidy_front; back = tidy_back }

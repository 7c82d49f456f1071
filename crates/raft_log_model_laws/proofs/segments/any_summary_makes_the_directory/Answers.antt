use Rattle.raft_log_model_laws.proofs.AnySummary.{directory_of_any}
use Rattle.raft_log_model_laws.proofs.segments.any_summary_makes_the_directory.Goals as goal

pub returns : goal.returns
returns g c = directory_of_any

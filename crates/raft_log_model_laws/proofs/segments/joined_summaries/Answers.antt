use Rattle.raft_log_model_laws.proofs.Joins.{join_is_summary}
use Rattle.raft_log_model_laws.proofs.segments.joined_summaries.Goals as goal

pub returns : goal.returns
returns g c = join_is_summary

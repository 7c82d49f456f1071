use Rattle.raft_log_model_laws.proofs.Summaries.{summary_says}
use Rattle.raft_log_model_laws.proofs.segments.summary_says_the_last_word.Goals as goal

pub returns : goal.returns
returns g c s xs = summary_says xs s

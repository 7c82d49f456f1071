use Rattle.raft_log_model_laws.proofs.Joins.{bracketing_word, bracketing_table}
use Rattle.raft_log_model_laws.proofs.segments.any_bracketing_says_the_whole.Goals as goal

pub returns : goal.returns
returns g c = record { word = bracketing_word; table = bracketing_table }

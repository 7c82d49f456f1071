use Rattle.raft_log_model_laws.proofs.Joins.{bracketings_agree}
use Rattle.raft_log_model_laws.proofs.segments.joining_is_associative.Goals as goal

pub returns : goal.returns
returns g c = bracketings_agree

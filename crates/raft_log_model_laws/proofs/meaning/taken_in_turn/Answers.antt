use Rattle.raft_log_model_laws.proofs.Steps.{taken_append}
use Rattle.raft_log_model_laws.proofs.meaning.taken_in_turn.Goals as goal

pub returns : goal.returns
returns g c = taken_append

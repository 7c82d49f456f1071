use Rattle.raft_log_model_laws.proofs.Steps.{append_step}
use Rattle.raft_log_model_laws.proofs.meaning.append_takes_records.Goals as goal

pub returns : goal.returns
returns g c = append_step

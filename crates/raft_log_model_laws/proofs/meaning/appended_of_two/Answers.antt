use Rattle.raft_log_model_laws.proofs.Records.{appended_append}
use Rattle.raft_log_model_laws.proofs.meaning.appended_of_two.Goals as goal

pub returns : goal.returns
returns g c = appended_append

use Rattle.raft_log_model_laws.proofs.Words.{directory_append}
use Rattle.raft_log_model_laws.proofs.meaning.directory_is_one_log.Goals as goal

pub returns : goal.returns
returns g c = directory_append

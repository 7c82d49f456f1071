use Rattle.raft_log_model_laws.proofs.Words.{directory_more}
use Rattle.raft_log_model_laws.proofs.meaning.append_takes_items.Goals as goal

pub returns : goal.returns
returns g c = directory_more

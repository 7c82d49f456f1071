use Rattle.raft_log_model_laws.proofs.Words.{says_append}
use Rattle.raft_log_model_laws.proofs.meaning.last_word_of_two.Goals as goal

pub returns : goal.returns
returns g c = says_append

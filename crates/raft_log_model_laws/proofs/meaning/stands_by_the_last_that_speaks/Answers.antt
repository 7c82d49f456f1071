use Rattle.raft_log_model_laws.proofs.Standing.{stands_exactly}
use Rattle.raft_log_model_laws.proofs.meaning.stands_by_the_last_that_speaks.Goals as goal

pub returns : goal.returns
returns g c = stands_exactly

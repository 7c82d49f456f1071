use Rattle.raft_log_world.proofs.Asked.{batches_are_whole}
use Rattle.raft_log_world.proofs.questions.batches_are_whole.Goals as goal

pub returns : goal.returns
returns g c = batches_are_whole _ _

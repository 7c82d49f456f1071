use Rattle.raft_log_world.proofs.Asked.{purges_keep_contents}
use Rattle.raft_log_world.proofs.questions.purges_keep_contents.Goals as goal

pub returns : goal.returns
returns g c = purges_keep_contents _ _

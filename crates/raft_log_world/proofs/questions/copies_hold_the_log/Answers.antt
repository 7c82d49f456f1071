use Rattle.raft_log_world.proofs.Asked.{copies_hold_the_log}
use Rattle.raft_log_world.proofs.questions.copies_hold_the_log.Goals as goal

pub returns : goal.returns
returns g c = copies_hold_the_log _ _

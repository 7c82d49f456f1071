use Rattle.raft_log_dual_pipes.proofs.CloseSteps.{names_are_reserved}
use Rattle.raft_log_dual_pipes.proofs.closing.names_are_reserved.Goals as goal

pub returns : goal.returns
returns g c log = names_are_reserved (g.G.LogQueues.queues log)

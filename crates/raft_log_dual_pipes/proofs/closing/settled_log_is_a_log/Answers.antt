use Rattle.raft_log_dual_pipes.proofs.CloseSteps.{settled_log_is_a_log}
use Rattle.raft_log_dual_pipes.proofs.closing.settled_log_is_a_log.Goals as goal

pub returns : goal.returns
returns g c log = settled_log_is_a_log (g.G.LogQueues.queues log)

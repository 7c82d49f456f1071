use Rattle.raft_log_dual_pipes.proofs.CloseSteps.{closed_log_is_a_log}
use Rattle.raft_log_dual_pipes.proofs.closing.closed_log_is_a_log.Goals as goal

pub returns : goal.returns
returns g c log = closed_log_is_a_log (g.G.LogQueues.queues log)

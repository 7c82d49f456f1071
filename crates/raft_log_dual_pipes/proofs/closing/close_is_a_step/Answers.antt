use Rattle.raft_log_dual_pipes.proofs.CloseSteps.{close_is_a_step}
use Rattle.raft_log_dual_pipes.proofs.closing.close_is_a_step.Goals as goal

pub returns : goal.returns
returns g c log = close_is_a_step (g.G.LogQueues.queues log)

use Rattle.raft_log_dual_pipes.proofs.BesideSteps.{quiet_calls_beside}
use Rattle.raft_log_dual_pipes.proofs.per_queue.quiet_calls_beside.Goals as goal

pub returns : goal.returns
returns g c log = quiet_calls_beside (g.G.LogQueues.queues log)

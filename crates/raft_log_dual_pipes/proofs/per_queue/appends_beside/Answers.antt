use Rattle.raft_log_dual_pipes.proofs.BesideSteps.{appends_beside}
use Rattle.raft_log_dual_pipes.proofs.per_queue.appends_beside.Goals as goal

pub returns : goal.returns
returns g c log = appends_beside (g.G.LogQueues.queues log)

use Rattle.raft_log_dual_pipes.proofs.BesideSteps.{fails_to_append_beside}
use Rattle.raft_log_dual_pipes.proofs.per_queue.fails_to_append_beside.Goals as goal

pub returns : goal.returns
returns g c log = fails_to_append_beside (g.G.LogQueues.queues log)

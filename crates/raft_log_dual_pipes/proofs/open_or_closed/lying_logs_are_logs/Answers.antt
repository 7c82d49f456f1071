use Rattle.raft_log_dual_pipes.proofs.ClosedQueues.{lying_logs_are_logs}
use Rattle.raft_log_dual_pipes.proofs.open_or_closed.lying_logs_are_logs.Goals as goal

pub returns : goal.returns
returns g c log = lying_logs_are_logs (g.G.LogQueues.queues log)

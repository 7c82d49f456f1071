use Rattle.raft_log_dual_pipes.proofs.FailingLaws.{failed_pipes_leave_logs}
use Rattle.raft_log_dual_pipes.proofs.failing.failed_pipes_leave_logs.Goals as goal

pub returns : goal.returns
returns g c log = failed_pipes_leave_logs (g.G.LogQueues.queues log)

use Rattle.raft_log_dual_pipes.proofs.OnDiskLaws.{resting_logs_open}
use Rattle.raft_log_dual_pipes.proofs.on_disk.resting_logs_open.Goals as goal

pub returns : goal.returns
returns g c log = resting_logs_open (g.G.LogQueues.queues log)

use Rattle.raft_log_dual_pipes.proofs.OnDiskLaws.{logs_go_on_disks}
use Rattle.raft_log_dual_pipes.proofs.on_disk.logs_go_on_disks.Goals as goal

pub returns : goal.returns
returns g c log = logs_go_on_disks (g.G.LogQueues.queues log)

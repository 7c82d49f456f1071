use Rattle.raft_log_dual_pipes.proofs.Written.{written_is_pending}
use Rattle.raft_log_dual_pipes.proofs.writes.written_is_pending.Goals as goal

pub returns : goal.returns
returns g c log = written_is_pending (g.G.LogQueues.queues log)

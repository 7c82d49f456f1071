use Rattle.raft_log_dual_pipes.proofs.Wholes.{begun_log_is_empty}
use Rattle.raft_log_dual_pipes.proofs.beginning.begun_log_is_empty.Goals as goal

pub returns : goal.returns
returns g c log = begun_log_is_empty (g.G.LogQueues.queues log)

use Rattle.raft_log_dual_pipes.proofs.ReadingAgain.{found_log_is_a_log}
use Rattle.raft_log_dual_pipes.proofs.reopening.found_log_is_a_log.Goals as goal

pub returns : goal.returns
returns g c log = found_log_is_a_log (g.G.LogQueues.queues log)

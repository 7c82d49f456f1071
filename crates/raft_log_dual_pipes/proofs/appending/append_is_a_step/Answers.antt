use Rattle.raft_log_dual_pipes.proofs.AppendStep.{append_is_a_step}
use Rattle.raft_log_dual_pipes.proofs.appending.append_is_a_step.Goals as goal

pub returns : goal.returns
returns g c log = append_is_a_step (g.G.LogQueues.queues log)

use Rattle.raft_log_dual_pipes.proofs.OpenSteps.{open_is_a_step}
use Rattle.raft_log_dual_pipes.proofs.reopening.open_is_a_step.Goals as goal

pub returns : goal.returns
returns g c log = open_is_a_step (g.G.LogQueues.queues log)

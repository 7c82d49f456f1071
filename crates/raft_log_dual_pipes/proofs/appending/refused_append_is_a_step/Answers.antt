use Rattle.raft_log_dual_pipes.proofs.RefusedStep.{refused_append_is_a_step}
use Rattle.raft_log_dual_pipes.proofs.appending.refused_append_is_a_step.Goals as goal

pub returns : goal.returns
returns g c log = refused_append_is_a_step (g.G.LogQueues.queues log)

use Rattle.raft_log_dual_pipes.proofs.OtherSteps.{refused_purge_is_a_step}
use Rattle.raft_log_dual_pipes.proofs.purging.refused_purge_is_a_step.Goals as goal

pub returns : goal.returns
returns g c log = refused_purge_is_a_step (g.G.LogQueues.queues log)

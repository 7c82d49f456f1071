use Rattle.raft_log_dual_pipes.proofs.RefusedStep.{refused_rotation_has_failed}
use Rattle.raft_log_dual_pipes.proofs.appending.refused_rotation_has_failed.Goals as goal

pub returns : goal.returns
returns g c log = refused_rotation_has_failed (g.G.LogQueues.queues log)

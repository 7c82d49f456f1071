use Rattle.raft_log_dual_pipes.proofs.CrashSteps.{crash_is_a_step}
use Rattle.raft_log_dual_pipes.proofs.reopening.crash_is_a_step.Goals as goal

pub returns : goal.returns
returns g c log = crash_is_a_step (g.G.LogQueues.queues log)

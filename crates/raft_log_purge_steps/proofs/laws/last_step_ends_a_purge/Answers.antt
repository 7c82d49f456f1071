use Rattle.raft_log_purge_steps.proofs.Stepping.{last_step_ends_a_purge}
use Rattle.raft_log_purge_steps.proofs.laws.last_step_ends_a_purge.Goals as goal

pub returns : goal.returns
returns g c = last_step_ends_a_purge _

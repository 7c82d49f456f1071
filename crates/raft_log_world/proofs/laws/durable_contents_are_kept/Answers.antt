use Rattle.raft_log_world.proofs.Keeping.{keeps_durable}
use Rattle.raft_log_world.proofs.laws.durable_contents_are_kept.Goals as goal

pub returns : goal.returns
returns g c = keeps_durable _ _

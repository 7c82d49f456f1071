use Rattle.raft_log_model_laws.proofs.Intervals.{by_intervals_solid}
use Rattle.raft_log_model_laws.proofs.hostile.solid_directory_is_by_intervals.Goals as goal

pub returns : goal.returns
returns g c = by_intervals_solid

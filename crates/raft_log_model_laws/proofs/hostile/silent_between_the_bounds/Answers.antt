use Rattle.raft_log_model_laws.proofs.Intervals.{silence}
use Rattle.raft_log_model_laws.proofs.hostile.silent_between_the_bounds.Goals as goal

pub returns : goal.returns
returns g c = silence

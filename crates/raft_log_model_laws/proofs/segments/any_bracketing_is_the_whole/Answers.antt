use Rattle.raft_log_model_laws.proofs.Chunks.{any_bracketing}
use Rattle.raft_log_model_laws.proofs.segments.any_bracketing_is_the_whole.Goals as goal

pub returns : goal.returns
returns g c = any_bracketing

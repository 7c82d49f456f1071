use Rattle.raft_log_model_laws.proofs.Holes.{no_hole}
use Rattle.raft_log_model_laws.proofs.hostile.no_hole_no_rule.Goals as goal

pub returns : goal.returns
returns g c = no_hole

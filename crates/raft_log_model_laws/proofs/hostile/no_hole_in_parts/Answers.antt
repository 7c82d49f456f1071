use Rattle.raft_log_model_laws.specs.Holes.{nothing}
use Rattle.raft_log_model_laws.proofs.Holes.{no_hole_front, no_hole_later}
use Rattle.raft_log_model_laws.proofs.hostile.no_hole_in_parts.Goals as goal

pub returns : goal.returns
returns g c = record { front = no_hole_front nothing; back = no_hole_later }

use Rattle.raft_log_recovery_laws.proofs.InPlaceOutcomes.{standing_directories_open}
use Rattle.raft_log_recovery_laws.proofs.in_place.standing_directories_open.Goals as goal

pub returns : goal.returns
returns g c = standing_directories_open _ _

use Rattle.raft_log_recovery_laws.proofs.InPlaceOutcomes.{standing_logs_open_by_calls}
use Rattle.raft_log_recovery_laws.proofs.in_place.standing_logs_open_by_calls.Goals as goal

pub returns : goal.returns
returns g c = standing_logs_open_by_calls _ _

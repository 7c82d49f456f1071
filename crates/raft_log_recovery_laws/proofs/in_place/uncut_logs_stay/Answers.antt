use Rattle.raft_log_recovery_laws.proofs.InPlaceUncut.{uncut_logs_stay}
use Rattle.raft_log_recovery_laws.proofs.in_place.uncut_logs_stay.Goals as goal

pub returns : goal.returns
returns c = uncut_logs_stay

use Rattle.raft_log_recovery_laws.proofs.Unsynced.{unsynced_logs_stay}
use Rattle.raft_log_recovery_laws.proofs.in_place.unsynced_logs_stay.Goals as goal

pub returns : goal.returns
returns c = unsynced_logs_stay

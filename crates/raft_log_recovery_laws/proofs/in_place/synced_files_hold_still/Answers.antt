use Rattle.raft_log_recovery_laws.proofs.Flushed.{synced_files_hold_still}
use Rattle.raft_log_recovery_laws.proofs.in_place.synced_files_hold_still.Goals as goal

pub returns : goal.returns
returns c = synced_files_hold_still

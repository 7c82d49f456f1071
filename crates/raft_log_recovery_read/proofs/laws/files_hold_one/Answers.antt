use Rattle.raft_log_recovery_read.proofs.HeldOnce.{holds_one}
use Rattle.raft_log_recovery_read.proofs.laws.files_hold_one.Goals as goal

pub returns : goal.returns
returns c = holds_one

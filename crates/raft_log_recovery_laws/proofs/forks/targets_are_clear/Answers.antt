use Rattle.raft_log_recovery_laws.proofs.Resting.{targets_are_clear}
use Rattle.raft_log_recovery_laws.proofs.forks.targets_are_clear.Goals as goal

pub returns : goal.returns
returns c = targets_are_clear

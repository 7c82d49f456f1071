use Rattle.raft_log_recovery_laws.proofs.ProperCloses.{successful_closes_are_proper}
use Rattle.raft_log_recovery_laws.proofs.closed.successful_closes_are_proper.Goals as goal

pub returns : goal.returns
returns c = successful_closes_are_proper

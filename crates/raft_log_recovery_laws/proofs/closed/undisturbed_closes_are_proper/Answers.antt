use Rattle.raft_log_recovery_laws.proofs.ProperCloses.{undisturbed_closes_are_proper}
use Rattle.raft_log_recovery_laws.proofs.closed.undisturbed_closes_are_proper.Goals as goal

pub returns : goal.returns
returns c = undisturbed_closes_are_proper

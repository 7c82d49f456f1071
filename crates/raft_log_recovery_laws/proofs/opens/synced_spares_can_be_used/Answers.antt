use Rattle.raft_log_recovery_laws.proofs.Spares.{synced_spares_can_be_used}
use Rattle.raft_log_recovery_laws.proofs.opens.synced_spares_can_be_used.Goals as goal

pub returns : goal.returns
returns g c = synced_spares_can_be_used _ _

use Rattle.raft_log_machine_laws.proofs.SurvivalSteps.{holds_rewrite_synced}
use Rattle.raft_log_machine_laws.proofs.survival.rewrite_syncs.Goals as goal

pub returns : goal.returns
returns g c = holds_rewrite_synced

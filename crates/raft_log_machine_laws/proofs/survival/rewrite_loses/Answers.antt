use Rattle.raft_log_machine_laws.proofs.SurvivalSteps.{holds_rewrite_left}
use Rattle.raft_log_machine_laws.proofs.survival.rewrite_loses.Goals as goal

pub returns : goal.returns
returns g c = holds_rewrite_left

use Rattle.raft_log_machine_laws.proofs.SurvivalSteps.{holds_rewrite_raised}
use Rattle.raft_log_machine_laws.proofs.survival.rewrite_rises.Goals as goal

pub returns : goal.returns
returns g c = holds_rewrite_raised

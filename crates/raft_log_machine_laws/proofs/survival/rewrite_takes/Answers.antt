use Rattle.raft_log_machine_laws.proofs.SurvivalSteps.{holds_rewrite_takes}
use Rattle.raft_log_machine_laws.proofs.survival.rewrite_takes.Goals as goal

pub returns : goal.returns
returns g c = holds_rewrite_takes

use Rattle.raft_log_machine_laws.proofs.SurvivalSteps.{holds_append_raised}
use Rattle.raft_log_machine_laws.proofs.survival.append_rises.Goals as goal

pub returns : goal.returns
returns g c = holds_append_raised

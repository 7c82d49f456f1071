use Rattle.raft_log_machine_laws.proofs.SurvivalSteps.{survives}
use Rattle.raft_log_machine_laws.proofs.survival.held_map_survives.Goals as goal

pub returns : goal.returns
returns g c = survives

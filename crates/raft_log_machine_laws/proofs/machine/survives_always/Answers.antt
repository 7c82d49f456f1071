use Rattle.raft_log_machine_laws.proofs.FreshKeeps.{schedule_survives}
use Rattle.raft_log_machine_laws.proofs.machine.survives_always.Goals as goal

pub returns : goal.returns
returns g c = schedule_survives

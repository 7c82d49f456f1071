use Rattle.raft_log_machine_laws.proofs.MachineKeeps.{step_keeps}
use Rattle.raft_log_machine_laws.proofs.machine.each_step_keeps.Goals as goal

pub returns : goal.returns
returns g c = step_keeps

use Rattle.raft_log_machine_laws.proofs.FreshKeeps.{fresh_keeps}
use Rattle.raft_log_machine_laws.proofs.machine.fresh_machine_is_kept.Goals as goal

pub returns : goal.returns
returns g c = fresh_keeps

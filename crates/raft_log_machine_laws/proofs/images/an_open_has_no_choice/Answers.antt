use Rattle.raft_log_machine_laws.proofs.OneRecovery.{alike}
use Rattle.raft_log_machine_laws.proofs.images.an_open_has_no_choice.Goals as goal

pub returns : goal.returns
returns g c = alike

use Rattle.raft_log_machine_laws.proofs.TidyLaws.{unbroken_tidy}
use Rattle.raft_log_machine_laws.proofs.replay.unbroken_records_are_tidy.Goals as goal

pub returns : goal.returns
returns g c = unbroken_tidy

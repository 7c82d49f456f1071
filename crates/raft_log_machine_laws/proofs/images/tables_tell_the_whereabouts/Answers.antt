use Rattle.raft_log_machine_laws.proofs.RecoveryLaws.{read_off}
use Rattle.raft_log_machine_laws.proofs.images.tables_tell_the_whereabouts.Goals as goal

pub returns : goal.returns
returns g c = read_off

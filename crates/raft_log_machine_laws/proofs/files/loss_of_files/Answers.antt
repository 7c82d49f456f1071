use Rattle.raft_log_machine_laws.proofs.DirectoryLaws.{lost_queue}
use Rattle.raft_log_machine_laws.proofs.files.loss_of_files.Goals as goal

pub returns : goal.returns
returns g c = lost_queue

use Rattle.raft_log_machine_laws.proofs.DirectoryLaws.{raised_queue}
use Rattle.raft_log_machine_laws.proofs.files.rise_of_files.Goals as goal

pub returns : goal.returns
returns g c = raised_queue

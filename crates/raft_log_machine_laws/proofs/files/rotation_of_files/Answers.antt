use Rattle.raft_log_machine_laws.proofs.DirectoryLaws.{rotated_queue}
use Rattle.raft_log_machine_laws.proofs.files.rotation_of_files.Goals as goal

pub returns : goal.returns
returns g c = rotated_queue

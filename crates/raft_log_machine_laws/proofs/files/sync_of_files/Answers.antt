use Rattle.raft_log_machine_laws.proofs.DirectoryLaws.{synced_queue}
use Rattle.raft_log_machine_laws.proofs.files.sync_of_files.Goals as goal

pub returns : goal.returns
returns g c = synced_queue

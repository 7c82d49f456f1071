use Rattle.raft_log_machine_laws.proofs.DirectoryLaws.{read_queue}
use Rattle.raft_log_machine_laws.proofs.files.reading_of_files.Goals as goal

pub returns : goal.returns
returns g c = read_queue

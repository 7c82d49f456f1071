use Rattle.raft_log_machine_laws.proofs.DirectoryLaws.{schedule_opens_in_files}
use Rattle.raft_log_machine_laws.proofs.files.opens_in_files_always.Goals as goal

pub returns : goal.returns
returns g c = schedule_opens_in_files

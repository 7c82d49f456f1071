use Rattle.raft_log_machine_laws.proofs.DirectoryLaws.{schedule_survives_in_files}
use Rattle.raft_log_machine_laws.proofs.files.survives_in_files_always.Goals as goal

pub returns : goal.returns
returns g c = schedule_survives_in_files

use Rattle.raft_log_machine_laws.proofs.FileLaws.{survives_in_files}
use Rattle.raft_log_machine_laws.proofs.files.records_survive_in_files.Goals as goal

pub returns : goal.returns
returns g c = survives_in_files

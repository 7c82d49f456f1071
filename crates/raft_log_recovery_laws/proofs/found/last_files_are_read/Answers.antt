use Rattle.raft_log_recovery_laws.proofs.LastFiles.{last_file_is_read}
use Rattle.raft_log_recovery_laws.proofs.found.last_files_are_read.Goals as goal

pub returns : goal.returns
returns c = last_file_is_read

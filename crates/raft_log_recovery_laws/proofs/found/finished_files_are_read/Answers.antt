use Rattle.raft_log_recovery_laws.proofs.PastFiles.{finished_file_is_read}
use Rattle.raft_log_recovery_laws.proofs.found.finished_files_are_read.Goals as goal

pub returns : goal.returns
returns c = finished_file_is_read

use Rattle.raft_log_recovery_laws.proofs.AllFiles.{no_files_are_scanned}
use Rattle.raft_log_recovery_laws.proofs.found.no_files_are_scanned.Goals as goal

pub returns : goal.returns
returns c = no_files_are_scanned

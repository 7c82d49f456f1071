use Rattle.raft_log_recovery_laws.proofs.AllFiles.{scanned_files_are_all}
use Rattle.raft_log_recovery_laws.proofs.found.scanned_files_are_all.Goals as goal

pub returns : goal.returns
returns c = scanned_files_are_all

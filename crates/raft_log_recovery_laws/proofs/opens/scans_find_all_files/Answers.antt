use Rattle.raft_log_recovery_laws.proofs.Finding.{scans_find_all_files}
use Rattle.raft_log_recovery_laws.proofs.opens.scans_find_all_files.Goals as goal

pub returns : goal.returns
returns c = scans_find_all_files

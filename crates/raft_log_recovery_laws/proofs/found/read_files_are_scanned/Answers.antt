use Rattle.raft_log_recovery_laws.proofs.Scans.{read_files_are_scanned}
use Rattle.raft_log_recovery_laws.proofs.found.read_files_are_scanned.Goals as goal

pub returns : goal.returns
returns c = read_files_are_scanned

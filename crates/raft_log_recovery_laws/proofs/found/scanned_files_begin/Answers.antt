use Rattle.raft_log_recovery_laws.proofs.Begun.{scanned_files_begin}
use Rattle.raft_log_recovery_laws.proofs.found.scanned_files_begin.Goals as goal

pub returns : goal.returns
returns c = scanned_files_begin

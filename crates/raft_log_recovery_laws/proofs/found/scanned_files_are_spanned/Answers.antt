use Rattle.raft_log_recovery_laws.proofs.Spans.{scanned_files_are_spanned}
use Rattle.raft_log_recovery_laws.proofs.found.scanned_files_are_spanned.Goals as goal

pub returns : goal.returns
returns c = scanned_files_are_spanned

use Rattle.raft_log_recovery_laws.proofs.Headers.{header_is_written}
use Rattle.raft_log_recovery_laws.proofs.found.headers_are_written.Goals as goal

pub returns : goal.returns
returns c = header_is_written

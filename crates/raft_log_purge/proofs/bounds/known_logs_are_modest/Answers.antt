use Rattle.raft_log_purge.proofs.Known.{known_logs_are_modest}
use Rattle.raft_log_purge.proofs.bounds.known_logs_are_modest.Goals as goal

pub returns : goal.returns
returns c = known_logs_are_modest

use Rattle.raft_log_purge.proofs.PurgedBounds.{modest_logs_are_purged}
use Rattle.raft_log_purge.proofs.bounds.modest_logs_are_purged.Goals as goal

pub returns : goal.returns
returns c = modest_logs_are_purged

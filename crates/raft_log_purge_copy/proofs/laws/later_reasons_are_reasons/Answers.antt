use Rattle.raft_log_purge_copy.proofs.Reasons.{reason_after}
use Rattle.raft_log_purge_copy.proofs.laws.later_reasons_are_reasons.Goals as goal

pub returns : goal.returns
returns c = reason_after

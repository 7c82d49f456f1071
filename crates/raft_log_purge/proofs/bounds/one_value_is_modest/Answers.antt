use Rattle.raft_log_purge.proofs.One.{one_value_is_modest}
use Rattle.raft_log_purge.proofs.bounds.one_value_is_modest.Goals as goal

pub returns : goal.returns
returns c = one_value_is_modest

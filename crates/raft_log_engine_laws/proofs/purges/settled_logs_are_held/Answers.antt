use Rattle.raft_log_engine_laws.proofs.Settling.{settled_held}
use Rattle.raft_log_engine_laws.proofs.purges.settled_logs_are_held.Goals as goal

pub returns : goal.returns
returns c = settled_held

use Rattle.raft_log_engine_laws.proofs.Raising.{raised}
use Rattle.raft_log_engine_laws.proofs.purges.purges_keep_the_map.Goals as goal

pub returns : goal.returns
returns c = raised

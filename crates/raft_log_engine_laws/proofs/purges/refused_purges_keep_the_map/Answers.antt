use Rattle.raft_log_engine_laws.proofs.Raising.{raise_refused}
use Rattle.raft_log_engine_laws.proofs.purges.refused_purges_keep_the_map.Goals as goal

pub returns : goal.returns
returns c = raise_refused

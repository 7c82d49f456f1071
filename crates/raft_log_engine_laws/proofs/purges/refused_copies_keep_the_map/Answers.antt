use Rattle.raft_log_engine_laws.proofs.Copying.{copies_refused}
use Rattle.raft_log_engine_laws.proofs.purges.refused_copies_keep_the_map.Goals as goal

pub returns : goal.returns
returns c = copies_refused

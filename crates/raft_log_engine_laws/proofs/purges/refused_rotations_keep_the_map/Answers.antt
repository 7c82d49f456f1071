use Rattle.raft_log_engine_laws.proofs.Settling.{turn_refused}
use Rattle.raft_log_engine_laws.proofs.purges.refused_rotations_keep_the_map.Goals as goal

pub returns : goal.returns
returns c = turn_refused

use Rattle.raft_log_engine_laws.proofs.Settling.{sync_keeps, sync_settles_log}
use Rattle.raft_log_engine_laws.proofs.purges.rewrite_syncs_keep_the_map.Goals as goal

pub returns : goal.returns
returns c = record { keeps = sync_keeps; settles = sync_settles_log }

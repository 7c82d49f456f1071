use Rattle.raft_log_engine_laws.proofs.Settling.{append_rotates, rewrite_rotates, settled_rotates}
use Rattle.raft_log_engine_laws.proofs.purges.rotations_keep_the_map.Goals as goal

pub returns : goal.returns
returns c = record { append = append_rotates; stays = settled_rotates; rewrite = rewrite_rotates }

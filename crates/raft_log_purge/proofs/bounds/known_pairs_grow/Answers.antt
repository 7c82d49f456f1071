use Rattle.raft_log_purge.proofs.Growing.{known_pairs_grow}
use Rattle.raft_log_purge.proofs.bounds.known_pairs_grow.Goals as goal

pub returns : goal.returns
returns c = known_pairs_grow

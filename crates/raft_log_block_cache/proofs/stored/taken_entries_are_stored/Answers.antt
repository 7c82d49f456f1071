use Rattle.raft_log_block_cache.proofs.Taking.{taken_entries_are_stored}
use Rattle.raft_log_block_cache.proofs.stored.taken_entries_are_stored.Goals as goal

pub returns : goal.returns
returns g c = taken_entries_are_stored

use Rattle.raft_log_block_cache.proofs.Staying.{stored_entries_stay}
use Rattle.raft_log_block_cache.proofs.stored.stored_entries_stay.Goals as goal

pub returns : goal.returns
returns g c = stored_entries_stay

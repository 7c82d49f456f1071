use Rattle.raft_log_block_cache.proofs.Lasting.{written_entries_are_stored}
use Rattle.raft_log_block_cache.proofs.stored.written_entries_are_stored.Goals as goal

pub returns : goal.returns
returns g c = written_entries_are_stored

use Rattle.raft_log_block_cache.proofs.Anywhere.{any_file_may_take_it}
use Rattle.raft_log_block_cache.proofs.stored.any_file_may_take_it.Goals as goal

pub returns : goal.returns
returns g c = any_file_may_take_it

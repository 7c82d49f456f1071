use Rattle.raft_log_block_cache.proofs.Keeping.{calls_keep_bytes}
use Rattle.raft_log_block_cache.proofs.stored.calls_keep_bytes.Goals as goal

pub returns : goal.returns
returns g c = calls_keep_bytes

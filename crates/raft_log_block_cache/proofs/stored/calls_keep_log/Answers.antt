use Rattle.raft_log_block_cache.proofs.Keeping.{calls_keep_log}
use Rattle.raft_log_block_cache.proofs.stored.calls_keep_log.Goals as goal

pub returns : goal.returns
returns g c = calls_keep_log

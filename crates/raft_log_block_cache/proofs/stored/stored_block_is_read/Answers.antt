use Rattle.raft_log_block_cache.proofs.Reading.{stored_block_is_read}
use Rattle.raft_log_dual_pipes.specs.Queues.{layout_at}
use Rattle.raft_log_block_cache.proofs.stored.stored_block_is_read.Goals as goal

pub returns : goal.returns
returns g c = λ log which. stored_block_is_read (layout_at which (g.G.LogQueues.queues log))

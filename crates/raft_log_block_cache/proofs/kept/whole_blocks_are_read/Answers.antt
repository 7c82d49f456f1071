use Rattle.raft_log_block_cache.proofs.KeptBlocks.{whole_blocks_are_read}
use Rattle.raft_log_block_cache.proofs.kept.whole_blocks_are_read.Goals as goal

pub returns : goal.returns
returns c = whole_blocks_are_read

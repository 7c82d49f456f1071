use Rattle.raft_log_block_cache.proofs.KeptBlocks.{kept_blocks_stay}
use Rattle.raft_log_block_cache.proofs.kept.kept_blocks_stay.Goals as goal

pub returns : goal.returns
returns c = kept_blocks_stay

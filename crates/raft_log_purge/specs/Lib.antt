pub mod Append
pub mod Counted
pub mod Counting
pub mod Expired
pub mod ExpiredFiles
pub mod Free
pub mod Garbage
pub mod Laws
pub mod Lengths
pub mod Marks
-- libraries below, passed on to the crates above
pub use Rattle.raft_log_purge_copy
pub use Rattle.raft_log_purge_copy.specs.raft_log_engine_laws
pub use Rattle.raft_log_purge_copy.specs.raft_log_block_cache
pub use Rattle.raft_log_purge_copy.specs.raft_log_dual_pipes
pub mod RewriteQueue
pub mod Standing

pub mod Blocks
pub mod Signing
pub mod Stored
pub mod Written
-- libraries below, passed on to the crates above
pub use Rattle.raft_log_memtables
pub use Rattle.raft_log_dual_pipes
pub use Rattle.raft_log_file_pipe

pub mod Memory
pub mod Space
pub mod Turns
pub mod Answers
-- a crate below this one, which is re-exported for the crates above
pub use Rattle.raft_log_fs_state

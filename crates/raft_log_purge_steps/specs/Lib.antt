pub mod Compacting
pub mod Laws
pub mod Part
pub mod Steps
pub mod Weights
pub use Rattle.raft_log_purge

-- libraries below, passed on to the crates above

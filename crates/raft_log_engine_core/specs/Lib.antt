pub mod Compacting
pub mod Hearing
pub mod Messages
pub mod ModelCalls
pub mod Purging
pub mod Reads
pub mod Room
pub mod Touching
pub mod Whole
-- libraries below, re-exported to crates above
pub use Rattle.raft_log_purge.specs.raft_log_engine_laws
pub use Rattle.raft_log_open

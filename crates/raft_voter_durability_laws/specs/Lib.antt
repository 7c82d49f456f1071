pub mod Standing
pub mod Rounds
pub mod Requests
pub mod Reads
pub mod Ends
pub mod Calls
pub mod Laws
pub mod Examples
-- libraries below, passed on to the crates above
pub use Rattle.raft_log_engine_laws
pub use Rattle.raft_voter_records

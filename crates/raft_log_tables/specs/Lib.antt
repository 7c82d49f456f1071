-- re-exports of the libraries below
pub use Rattle.raft_log_extents
pub use Rattle.raft_log_memtable_index
pub use Rattle.raft_log_memtable
pub use Rattle.raft_log_memtables
pub use Rattle.raft_log_replay
pub use Rattle.raft_log_replay_context

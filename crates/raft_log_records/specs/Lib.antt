-- re-exports of the libraries below
pub use Rattle.raft_log_record_checksum
pub use Rattle.raft_log_record_base
pub use Rattle.raft_log_record_items
pub use Rattle.raft_log_record_frames
pub use Rattle.raft_log_record_frames
pub use Rattle.raft_log_record_frames
pub use Rattle.raft_log_record_batches

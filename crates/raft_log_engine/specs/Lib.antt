-- libraries below, re-exported to crates above
pub use Rattle.raft_log_model_laws
pub use Rattle.raft_log_machine_laws
pub use Rattle.raft_log_record_base
pub use Rattle.raft_log_record_items
pub use Rattle.raft_log_record_frames
pub use Rattle.raft_log_record_batches
pub use Rattle.raft_log_memtables
pub use Rattle.raft_log_fs
pub use Rattle.raft_log_fs_memory
pub use Rattle.raft_log_file_settings
pub use Rattle.raft_log_dual_pipes
pub use Rattle.raft_log_block_cache
pub use Rattle.raft_log_file_listeners
pub use Rattle.raft_log_engine_core.specs.raft_log_open
pub use Rattle.raft_log_engine_core.specs.raft_log_engine_laws
pub use Rattle.raft_log_engine_core
pub use Rattle.raft_log_offline

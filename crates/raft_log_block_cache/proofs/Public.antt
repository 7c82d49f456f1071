-- The lemmas that other crates may import. `tools/names` fails on an import of any other module of these proofs.
pub use Rattle.raft_log_block_cache.proofs.Entries.{front_kept, kept_through, none_read, read_both, unread_behind, unread_front}
pub use Rattle.raft_log_block_cache.proofs.Keeping.{calls_keep_bytes, calls_keep_log}
pub use Rattle.raft_log_block_cache.proofs.KeptBlocks.{file_unread, kept_blocks_stay, kept_is_written, none_kept, stopped_block}
pub use Rattle.raft_log_block_cache.proofs.Lasting.{written_entries_are_stored}
pub use Rattle.raft_log_block_cache.proofs.Staying.{block_stays, means_alike, stored_entries_stay}
pub use Rattle.raft_log_block_cache.proofs.Taking.{taken_entries_are_stored}
pub use Rattle.raft_log_block_cache.proofs.WholeBlocks.{batch_whole}

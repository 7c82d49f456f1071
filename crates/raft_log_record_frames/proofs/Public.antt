-- The lemmas that other crates may import. `tools/names` fails on an import of any other module of these proofs.
pub use Rattle.raft_log_record_frames.proofs.Blocks.{block_again, block_found}
pub use Rattle.raft_log_record_frames.proofs.Footers.{one_signature}
pub use Rattle.raft_log_record_frames.proofs.Frames.{frame_back, frames_take_bytes, one_frame, one_record}
pub use Rattle.raft_log_record_frames.proofs.Fronts.{frame_is_read, frames_are_read_back, no_frame_in_zeros, record_is_read, record_is_told, record_of_block, records_are_read_back}
pub use Rattle.raft_log_record_frames.proofs.Headers.{header_words, is_sound_header}
pub use Rattle.raft_log_record_frames.proofs.Made.{block_more, four_bytes, header-length, record-length}
pub use Rattle.raft_log_record_frames.proofs.Marks.{written_mark}
pub use Rattle.raft_log_record_frames.proofs.Meanings.{becomes_part, keeps_mark, no_mark_key, value_again}
pub use Rattle.raft_log_record_frames.proofs.Placing.{all_entries-written, all_lie_in, run_len-cons}
pub use Rattle.raft_log_record_frames.proofs.Words.{word_leaves, word_there}
pub use Rattle.raft_log_record_frames.proofs.Written.{written_is_record}

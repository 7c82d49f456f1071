-- The lemmas that other crates may import. `tools/names` fails on an import of any other module of these proofs.
pub use Rattle.raft_log_file_writer.proofs.CrashExampleLaws.{synced_file_has_no_chance}
pub use Rattle.raft_log_file_writer.proofs.KeepsSyncedLaws.{all_at_least, at_least_keeps, holds_at_least, holds_changed, holds_grown, holds_in_front, holds_more, holds_read, holds_shortened, holds_synced, holds_used_again, holds_written, left_keeps_part, left_of_image, record_lies, take_over}
pub use Rattle.raft_log_file_writer.proofs.LawsChainLaws.{frame_filled, frames_append, frames_back, frames_front, lies_in_more, nothing_refuses, reads_further, reads_some, reads_unique, spelled-append}
pub use Rattle.raft_log_file_writer.proofs.LogQueueLaws.{image_there, queue_is_kept, queue_is_readable, queue_restarts}
pub use Rattle.raft_log_file_writer.proofs.ShorteningLaws.{reads_whole, settled_at_least}
pub use Rattle.raft_log_file_writer.proofs.WriterLaws.{cut_handle, cut_later, cut_touches, reach_far, reach_near, touches_next, touches_refused, unclosed_kept, uncut_kept}

-- The lemmas that other crates may import. `tools/names` fails on an import of any other module of these proofs.
pub use Rattle.raft_log_file_reader.proofs.Extents.{batch_broken, context_is, extent_header, extent_short, placed_front}
pub use Rattle.raft_log_file_reader.proofs.FrameReadings.{block_stands, frame_of_batch}
pub use Rattle.raft_log_file_reader.proofs.Items.{calls_give_all_is}
pub use Rattle.raft_log_file_reader.proofs.Opened.{size_told}
pub use Rattle.raft_log_file_reader.proofs.Readings.{batches_go_on_is, one_fault_is, one_place, one_reading_is}

use Rattle.raft_log_record_frames.proofs.Frames.{record_is_frame, frames_take_bytes}
use Rattle.raft_log_record_frames.proofs.laws.record_is_a_frame_with_a_block.Goals as goal

pub returns : goal.returns
returns c = record { parts = record_is_frame; bytes = frames_take_bytes }

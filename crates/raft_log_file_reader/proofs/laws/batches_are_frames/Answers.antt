use Rattle.raft_log_file_reader.proofs.FrameReadings.{batches_are_frames_is, whole_block_is}
use Rattle.raft_log_file_reader.proofs.laws.batches_are_frames.Goals as goal

pub returns : goal.returns
returns c = record { frames = batches_are_frames_is; records = whole_block_is }

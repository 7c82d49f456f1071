use Rattle.raft_log_record_frames.proofs.Fronts.{frame_is_read, record_is_read, record_is_told, no_frame_in_zeros}
use Rattle.raft_log_record_frames.proofs.laws.what_stands_at_the_front_is_told.Goals as goal

pub returns : goal.returns
returns c = record { frames = frame_is_read; records = record_is_read; told = record_is_told; zeros = no_frame_in_zeros }

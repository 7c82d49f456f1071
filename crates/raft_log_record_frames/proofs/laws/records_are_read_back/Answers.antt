use Rattle.raft_log_record_frames.proofs.Fronts.{frames_are_read_back, records_are_read_back}
use Rattle.raft_log_record_frames.proofs.laws.records_are_read_back.Goals as goal

pub returns : goal.returns
returns c = record { frames = frames_are_read_back; records = records_are_read_back }

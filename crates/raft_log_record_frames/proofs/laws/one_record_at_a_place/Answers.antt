use Rattle.raft_log_record_frames.proofs.Frames.{one_header, one_footer, one_block, one_frame, one_record}
use Rattle.raft_log_record_frames.proofs.laws.one_record_at_a_place.Goals as goal

pub returns : goal.returns
returns c = record { headers = one_header; footers = one_footer; blocks = one_block; frames = one_frame; records = one_record }

use Rattle.raft_log_record_frames.proofs.Headers.{is_sound_header}
use Rattle.raft_log_record_frames.proofs.Blocks.{block_is_read}
use Rattle.raft_log_record_frames.proofs.Footers.{footer_is_read, placed_footer_is_read}
use Rattle.raft_log_record_frames.proofs.laws.parts_are_read.Goals as goal

pub returns : goal.returns
returns c = record { headers = is_sound_header; blocks = block_is_read; footers = footer_is_read; placed = placed_footer_is_read }

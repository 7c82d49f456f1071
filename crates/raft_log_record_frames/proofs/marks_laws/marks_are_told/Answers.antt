use Rattle.raft_log_record_frames.proofs.Marks.{tells_mark}
use Rattle.raft_log_record_frames.proofs.marks_laws.marks_are_told.Goals as goal

pub returns : goal.returns
returns c = tells_mark

use Rattle.raft_log_record_frames.proofs.Meanings.{keeps_mark}
use Rattle.raft_log_record_frames.proofs.marks_laws.user_items_keep_the_mark.Goals as goal

pub returns : goal.returns
returns c = keeps_mark

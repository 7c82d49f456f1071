use Rattle.raft_log_record_frames.proofs.Meanings.{user_batches_are_plain}
use Rattle.raft_log_record_frames.proofs.marks_laws.user_batches_are_plain.Goals as goal

pub returns : goal.returns
returns c = user_batches_are_plain

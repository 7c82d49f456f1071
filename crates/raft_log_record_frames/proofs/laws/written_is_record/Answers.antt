use Rattle.raft_log_record_frames.proofs.Written.{written_is_record}
use Rattle.raft_log_record_frames.proofs.laws.written_is_record.Goals as goal

pub returns : goal.returns
returns c = written_is_record

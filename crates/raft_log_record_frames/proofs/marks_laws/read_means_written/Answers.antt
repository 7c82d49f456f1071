use Rattle.raft_log_record_frames.proofs.Meanings.{read_means_written}
use Rattle.raft_log_record_frames.proofs.marks_laws.read_means_written.Goals as goal

pub returns : goal.returns
returns c = read_means_written

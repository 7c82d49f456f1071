use Rattle.raft_log_open.proofs.PaddingReading.{written_files_read_the_same_is}
use Rattle.raft_log_open.proofs.laws.written_files_read_the_same.Goals as goal

pub returns : goal.returns
returns c = written_files_read_the_same_is

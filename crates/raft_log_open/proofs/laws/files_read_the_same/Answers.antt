use Rattle.raft_log_open.proofs.PaddingReading.{files_read_the_same_is}
use Rattle.raft_log_open.proofs.laws.files_read_the_same.Goals as goal

pub returns : goal.returns
returns c = files_read_the_same_is

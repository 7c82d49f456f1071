use Rattle.raft_log_open.proofs.PaddingReading.{records_read_the_same_is}
use Rattle.raft_log_open.proofs.laws.records_read_the_same.Goals as goal

pub returns : goal.returns
returns c = records_read_the_same_is

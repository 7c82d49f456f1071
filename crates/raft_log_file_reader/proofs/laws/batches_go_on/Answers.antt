use Rattle.raft_log_file_reader.proofs.Readings.{batches_go_on_is}
use Rattle.raft_log_file_reader.proofs.laws.batches_go_on.Goals as goal

pub returns : goal.returns
returns c = batches_go_on_is

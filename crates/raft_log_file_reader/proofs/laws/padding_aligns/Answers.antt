use Rattle.raft_log_file_reader.proofs.Readings.{padding_aligns_is}
use Rattle.raft_log_file_reader.proofs.laws.padding_aligns.Goals as goal

pub returns : goal.returns
returns c = padding_aligns_is

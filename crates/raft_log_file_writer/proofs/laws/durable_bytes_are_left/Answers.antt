use Rattle.raft_log_file_writer.proofs.ChainLaws.{durable_is_left}
use Rattle.raft_log_file_writer.proofs.laws.durable_bytes_are_left.Goals as goal

pub returns : goal.returns
returns c = durable_is_left

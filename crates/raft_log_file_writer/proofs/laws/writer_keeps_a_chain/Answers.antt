use Rattle.raft_log_file_writer.proofs.ChainLaws.{writer_keeps_chain}
use Rattle.raft_log_file_writer.proofs.laws.writer_keeps_a_chain.Goals as goal

pub returns : goal.returns
returns g c = writer_keeps_chain g.G.Framing.is_frame

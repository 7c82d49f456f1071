use Rattle.raft_log_file_writer.proofs.LawsChainLaws.{reads_some}
use Rattle.raft_log_file_writer.proofs.chains.some_reading.Goals as goal

pub returns : goal.returns
returns g c = reads_some g.G.Framing.is_frame

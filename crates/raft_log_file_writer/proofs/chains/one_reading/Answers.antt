use Rattle.raft_log_file_writer.proofs.LawsChainLaws.{reads_unique}
use Rattle.raft_log_file_writer.proofs.chains.one_reading.Goals as goal

pub returns : goal.returns
returns g c = λ free start bytes vs ws. reads_unique g.G.Framing.is_frame free start vs ws bytes

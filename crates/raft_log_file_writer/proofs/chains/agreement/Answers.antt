use Rattle.raft_log_file_writer.proofs.LawsChainLaws.{chains_agree}
use Rattle.raft_log_file_writer.proofs.chains.agreement.Goals as goal

pub returns : goal.returns
returns g c = chains_agree g.G.Framing.is_frame

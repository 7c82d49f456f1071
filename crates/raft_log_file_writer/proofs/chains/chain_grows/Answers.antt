use Rattle.raft_log_file_writer.proofs.ChainContentLaws.{chain_grows}
use Rattle.raft_log_file_writer.proofs.chains.chain_grows.Goals as goal

pub returns : goal.returns
returns g c = λ free start. chain_grows g.G.Framing.is_frame free start

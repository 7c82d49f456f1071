use Rattle.raft_log_file_writer.proofs.KeepsSyncedLaws.{chain_at_rest}
use Rattle.raft_log_file_writer.proofs.chains.chain_at_rest.Goals as goal

pub returns : goal.returns
returns g c = chain_at_rest g.G.Framing.is_frame

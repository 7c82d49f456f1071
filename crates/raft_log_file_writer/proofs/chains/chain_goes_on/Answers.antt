use Rattle.raft_log_file_writer.proofs.KeepsSyncedLaws.{chain_goes_on}
use Rattle.raft_log_file_writer.proofs.chains.chain_goes_on.Goals as goal

pub returns : goal.returns
returns g c = chain_goes_on g.G.Framing.is_frame

use Rattle.raft_log_file_writer.proofs.ShorteningLaws.{shortened_is_kept}
use Rattle.raft_log_file_writer.proofs.chains.shortened_file_is_kept.Goals as goal

pub returns : goal.returns
returns g c = shortened_is_kept g.G.Framing.is_frame

use Rattle.raft_log_file_writer.proofs.CrashExampleLaws.{recycled_file_meets_it}
use Rattle.raft_log_file_writer.proofs.chains.recycled_file_meets_the_premise.Goals as goal

pub returns : goal.returns
returns g c = recycled_file_meets_it g.G.Framing.is_frame

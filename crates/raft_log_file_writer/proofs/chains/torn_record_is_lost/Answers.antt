use Rattle.raft_log_file_writer.proofs.CrashExampleLaws.{torn_record_is_lost}
use Rattle.raft_log_file_writer.proofs.chains.torn_record_is_lost.Goals as goal

pub returns : goal.returns
returns g c = torn_record_is_lost g.G.Framing.is_frame

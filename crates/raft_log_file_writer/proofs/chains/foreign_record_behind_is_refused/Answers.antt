use Rattle.raft_log_file_writer.proofs.CrashExampleLaws.{foreign_record_behind_is_refused}
use Rattle.raft_log_file_writer.proofs.chains.foreign_record_behind_is_refused.Goals as goal

pub returns : goal.returns
returns g c = foreign_record_behind_is_refused g.G.Framing.is_frame

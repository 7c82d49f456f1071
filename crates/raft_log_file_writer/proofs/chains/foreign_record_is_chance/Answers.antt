use Rattle.raft_log_file_writer.proofs.CrashExampleLaws.{foreign_record_is_chance}
use Rattle.raft_log_file_writer.proofs.chains.foreign_record_is_chance.Goals as goal

pub returns : goal.returns
returns g c = foreign_record_is_chance g.G.Framing.is_frame

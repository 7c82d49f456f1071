use Rattle.raft_log_file_writer.proofs.CrashExampleLaws.{synced_file_has_no_chance}
use Rattle.raft_log_file_writer.proofs.chains.synced_file_has_no_chance.Goals as goal

pub returns : goal.returns
returns g c = synced_file_has_no_chance g.G.Framing.is_frame

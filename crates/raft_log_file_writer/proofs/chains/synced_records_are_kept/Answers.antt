use Rattle.raft_log_file_writer.proofs.KeepsSyncedLaws.{at_least_keeps}
use Rattle.raft_log_file_writer.proofs.chains.synced_records_are_kept.Goals as goal

pub returns : goal.returns
returns g c = λ free start stale durable pending file. at_least_keeps g.G.Framing.is_frame start stale durable pending file free

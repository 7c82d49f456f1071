use Rattle.raft_log_file_writer.proofs.KeepsSyncedLaws.{durable_is_read}
use Rattle.raft_log_file_writer.proofs.chains.durable_records_are_read.Goals as goal

pub returns : goal.returns
returns g c = λ free start stale durable pending file least bytes left ws reads. durable_is_read g.G.Framing.is_frame start stale durable pending file bytes free least left ws reads

use Rattle.raft_log_active_file.proofs.Beginning.{begins_numbered}
use Rattle.raft_log_active_file.proofs.numbered.queue_begins_numbered.Goals as goal

pub returns : goal.returns
returns g c = begins_numbered g.G.NumberedFormat.says g.G.NumberedFormat.format

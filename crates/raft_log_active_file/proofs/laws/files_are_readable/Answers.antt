use Rattle.raft_log_active_file.proofs.Keeping.{files_are_readable}
use Rattle.raft_log_active_file.proofs.laws.files_are_readable.Goals as goal

pub returns : goal.returns
returns g c = files_are_readable g.G.QueueFormat.format g.G.QueueFormat.own

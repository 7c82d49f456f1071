use Rattle.raft_log_active_file.proofs.Keeping.{files_restart}
use Rattle.raft_log_active_file.proofs.laws.files_restart.Goals as goal

pub returns : goal.returns
returns g c = files_restart g.G.QueueFormat.format g.G.QueueFormat.own

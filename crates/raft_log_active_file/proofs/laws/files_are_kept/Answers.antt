use Rattle.raft_log_active_file.proofs.Keeping.{files_are_kept}
use Rattle.raft_log_active_file.proofs.laws.files_are_kept.Goals as goal

pub returns : goal.returns
returns g c = files_are_kept g.G.QueueFormat.format g.G.QueueFormat.own

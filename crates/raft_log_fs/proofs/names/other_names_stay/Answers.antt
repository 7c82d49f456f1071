use Rattle.raft_log_fs.proofs.TouchingLaws.{other_names_stay}
use Rattle.raft_log_fs.proofs.names.other_names_stay.Goals as goal

pub returns : goal.returns
returns g c = other_names_stay g.W.Owning.own g.W.Owning.known

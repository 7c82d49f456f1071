use Rattle.raft_log_fs.proofs.NamesLaws.{names_change}
use Rattle.raft_log_fs.proofs.names.names_change.Goals as goal

pub returns : goal.returns
returns c = names_change

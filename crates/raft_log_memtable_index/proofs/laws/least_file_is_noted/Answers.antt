use Rattle.raft_log_memtable_index.proofs.Noting.{least_is_noted}
use Rattle.raft_log_memtable_index.proofs.laws.least_file_is_noted.Goals as goal

pub returns : goal.returns
returns c = least_is_noted

use Rattle.raft_log_memtables.proofs.Ending.{group_ends}
use Rattle.raft_log_memtables.proofs.views.group_ends_the_view.Goals as goal

pub returns : goal.returns
returns g c = group_ends

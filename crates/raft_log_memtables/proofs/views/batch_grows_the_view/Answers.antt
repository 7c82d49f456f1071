use Rattle.raft_log_memtables.proofs.Growing.{view_grows}
use Rattle.raft_log_memtables.proofs.views.batch_grows_the_view.Goals as goal

pub returns : goal.returns
returns g c = view_grows

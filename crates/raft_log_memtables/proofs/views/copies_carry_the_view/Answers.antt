use Rattle.raft_log_memtables.proofs.Carrying.{copies_on}
use Rattle.raft_log_memtables.proofs.views.copies_carry_the_view.Goals as goal

pub returns : goal.returns
returns g c = copies_on

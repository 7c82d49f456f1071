use Rattle.raft_log_memtables.proofs.Carrying.{marks_on}
use Rattle.raft_log_memtables.proofs.views.marks_carry_the_view.Goals as goal

pub returns : goal.returns
returns g c = marks_on

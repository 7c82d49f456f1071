use Rattle.raft_log_memtables.proofs.Owed.{owed_carry}
use Rattle.raft_log_memtables.proofs.laws.owed_marks_carry.Goals as goal

pub returns : goal.returns
returns g c = owed_carry

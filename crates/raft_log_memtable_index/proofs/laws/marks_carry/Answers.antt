use Rattle.raft_log_memtable_index.proofs.Marking.{marks_carry}
use Rattle.raft_log_memtable_index.proofs.laws.marks_carry.Goals as goal

pub returns : goal.returns
returns g c = marks_carry

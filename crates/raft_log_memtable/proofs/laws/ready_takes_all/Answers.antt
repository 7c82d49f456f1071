use Rattle.raft_log_memtable.proofs.Ready.{ready_can, ready_next}
use Rattle.raft_log_memtable.proofs.laws.ready_takes_all.Goals as goal

pub returns : goal.returns
returns c = record { can = ready_can; next = ready_next }

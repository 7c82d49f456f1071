use Rattle.raft_log_memtable.proofs.Ready.{ready_more, ready_none, ready_renamed}
use Rattle.raft_log_memtable.proofs.laws.prepared_is_ready.Goals as goal

pub returns : goal.returns
returns g c = record { none = ready_none; more = ready_more; written = ready_renamed }

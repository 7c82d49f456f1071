use Rattle.raft_log_memtables.proofs.Applied.{ready_written}
use Rattle.raft_log_memtables.proofs.laws.ready_wherever_written.Goals as goal

pub returns : goal.returns
returns c = record { written = ready_written; follows = λ m items r g. (r.groups g).follows }

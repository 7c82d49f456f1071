use Rattle.raft_log_memtable.proofs.Leasts.{begins_past, notes_past}
use Rattle.raft_log_memtable.proofs.laws.rewritten_begins_past.Goals as goal

pub returns : goal.returns
returns c = record { begins = begins_past; noted = notes_past }

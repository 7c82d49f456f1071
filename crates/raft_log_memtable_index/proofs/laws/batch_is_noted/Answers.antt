use Rattle.raft_log_memtable_index.proofs.Noting.{rewritten_stay, written_grow}
use Rattle.raft_log_memtable_index.proofs.laws.batch_is_noted.Goals as goal

pub returns : goal.returns
returns g c = record { append = written_grow; rewrite = rewritten_stay }

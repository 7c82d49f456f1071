use Rattle.raft_log_memtable_index.proofs.Moving.{moves_carry, moves_meant, moves_orderly}
use Rattle.raft_log_memtable_index.proofs.laws.moves_carry.Goals as goal

pub returns : goal.returns
returns g c = record { carries = moves_carry; orderly = moves_orderly; means = moves_meant }

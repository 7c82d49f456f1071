use Rattle.raft_log_memtables.proofs.Copies.{copies_carry, copies_mean, copies_move, copies_orderly}
use Rattle.raft_log_memtables.proofs.laws.gated_copies_carry.Goals as goal

pub returns : goal.returns
returns g c = record { moves = copies_move; carries = copies_carry; orderly = copies_orderly; means = copies_mean }

use Rattle.std.proofs.Common.{arith}
use Rattle.raft_log_memtables.proofs.Moved.{more_may_move, rest_may_move, written_may_move}
use Rattle.raft_log_memtables.proofs.laws.copies_have_room.Goals as goal

pub returns : goal.returns
returns g c = record { none = λ m k h. omega arith; more = more_may_move; moved = rest_may_move; written = written_may_move }

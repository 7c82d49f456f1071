use Rattle.std.proofs.Common.{◌≡◌}
use Rattle.raft_log_fs_state.specs.Held.{held_of}
use Rattle.raft_log_fs_state.specs.Stamps.{stamps_of}
use Rattle.raft_log_fs_state.proofs.order.sorted_stamps.Given as goal

-- the stamps are those of the files so far
abbrev pub invariant-loop-slot : goal.invariant-loop-slot
invariant-loop-slot l = l.stamps.items ≡ stamps_of (held_of l.files) l.slot-index

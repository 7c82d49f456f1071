use Rattle.std.proofs.Common.{◌≡◌, ◌++◌, take}
use Rattle.raft_log_fs_state.specs.Stamps.{stamps_on}
use Rattle.raft_log_fs_state.proofs.order.add_stamps.Given as goal

-- the stamps of the changes so far stand behind those that were there
abbrev pub invariant-loop-stamped : goal.invariant-loop-stamped
invariant-loop-stamped l = l.stamps.items ≡ l.initial.stamps.items ++ stamps_on (take l.stamped-index l.changes)

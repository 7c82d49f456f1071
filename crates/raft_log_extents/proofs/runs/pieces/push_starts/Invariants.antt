use Rattle.std.proofs.Common.{◌≡◌, ◌+◌, ◌++◌, map, take}
use Rattle.std.specs.VecDeque.{deque_len, deque_capacity}
use Rattle.raft_log_extents.specs.Runs.{start_of_entry}
use Rattle.raft_log_extents.proofs.runs.pieces.push_starts.Given as goal

abbrev pub invariant-loop-entry : goal.invariant-loop-entry
invariant-loop-entry l =
    (l.starts.items ≡ l.fn.starts.items ++ map start_of_entry (take l.entry-index l.entries))
    × (deque_len l.starts ≡ deque_len l.fn.starts + l.entry-index)
    × (deque_capacity l.starts ≡ deque_capacity l.fn.starts)

use Rattle.std.proofs.Common.{◌≡◌, ◌+◌, ◌++◌, take}
use Rattle.std.specs.VecDeque.{deque_len, deque_capacity}
use Rattle.raft_log_extents.proofs.runs.cutting.move_starts.Given as goal

abbrev pub invariant-loop-i : goal.invariant-loop-i
invariant-loop-i l =
    (l.starts.items ≡ l.fn.starts.items ++ take l.i l.more.items)
    × (deque_len l.starts ≡ deque_len l.fn.starts + l.i)
    × (deque_capacity l.starts ≡ deque_capacity l.fn.starts)

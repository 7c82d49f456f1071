use Rattle.std.proofs.Common.{◌≡◌, ◌+◌, ◌++◌, drop, take}
use Rattle.std.specs.VecDeque.{deque_len, deque_capacity}
use Rattle.raft_log_extents.specs.Runs.{counts, renumbered, widths}
use Rattle.raft_log_extents.proofs.runs.cutting.renumber.Given as goal

abbrev pub invariant-loop-i : goal.invariant-loop-i
invariant-loop-i l =
    (l.runs.items ≡ renumbered l.fn.first l.fn.at (take l.i l.fn.runs.items) ++ drop l.i l.fn.runs.items)
    × (l.first ≡ l.fn.first + counts (take l.i l.fn.runs.items))
    × (l.at ≡ l.fn.at + widths (take l.i l.fn.runs.items))
    × (deque_len l.runs ≡ deque_len l.fn.runs)
    × (deque_capacity l.runs ≡ deque_capacity l.fn.runs)

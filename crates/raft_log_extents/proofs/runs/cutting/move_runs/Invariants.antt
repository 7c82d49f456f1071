use Rattle.std.proofs.Common.{◌≡◌, ◌+◌, ◌++◌, take}
use Rattle.std.specs.VecDeque.{deque_len, deque_capacity}
use Rattle.raft_log_extents.specs.Runs.{counts, renumbered, widths}
use Rattle.raft_log_extents.proofs.runs.cutting.move_runs.Given as goal

abbrev pub invariant-loop-i : goal.invariant-loop-i
invariant-loop-i l =
    (l.runs.items ≡ l.fn.runs.items ++ renumbered l.fn.first l.fn.at (take l.i l.more.items))
    × (l.first ≡ l.fn.first + counts (take l.i l.more.items))
    × (l.at ≡ l.fn.at + widths (take l.i l.more.items))
    × (deque_len l.runs ≡ deque_len l.fn.runs + l.i)
    × (deque_capacity l.runs ≡ deque_capacity l.fn.runs)

use Rattle.std.proofs.Common.{◌≡◌, ◌+◌, ◌++◌, [], drop, take, true, vec_capacity, vec_len}
use Rattle.raft_log_extents.specs.Entries.{entries_of}
use Rattle.raft_log_extents.specs.Runs.{laid}
use Rattle.raft_log_extents.proofs.runs.copying.push_even.Given as goal

abbrev pub invariant-loop-i : goal.invariant-loop-i
invariant-loop-i l =
    (l.entries.items ≡ l.fn.entries.items ++ entries_of l.queue l.index (take l.i (drop l.within (laid true l.run []))))
    × (vec_len l.entries ≡ vec_len l.fn.entries + l.i)
    × (vec_capacity l.entries ≡ vec_capacity l.fn.entries)

use Rattle.std.proofs.Common.{◌≡◌, ◌+◌, ◌++◌, vec_capacity, vec_len}
use Rattle.raft_log_extents.specs.Entries.{entries_of}
use Rattle.raft_log_extents.specs.Words.{whole_places}
use Rattle.raft_log_extents.proofs.runs.copying.push_whole.Given as goal

abbrev pub invariant-loop-i : goal.invariant-loop-i
invariant-loop-i l =
    (l.entries.items ≡ l.fn.entries.items ++ entries_of l.queue l.index (whole_places l.i l.words))
    × (vec_len l.entries ≡ vec_len l.fn.entries + l.i)
    × (vec_capacity l.entries ≡ vec_capacity l.fn.entries)

use Rattle.std.proofs.Common.{◌≡◌, ◌+◌, ◌++◌, drop, false, slice_index_or, take, vec_capacity, vec_len}
use Rattle.raft_log_extents.specs.Entries.{entries_of}
use Rattle.raft_log_extents.specs.Runs.{laid}
use Rattle.raft_log_extents.proofs.runs.copying.push_uneven.Given as goal

abbrev pub invariant-loop-i : goal.invariant-loop-i
invariant-loop-i l = record {
  items : l.entries.items ≡ l.fn.entries.items ++ entries_of l.queue l.index (take l.i (drop l.within (laid false l.run (drop l.from l.starts.items))));
  len : vec_len l.entries ≡ vec_len l.fn.entries + l.i;
  capacity : vec_capacity l.entries ≡ vec_capacity l.fn.entries;
  start : l.start ≡ slice_index_or l.starts.items (l.from + l.within + l.i) l.start;
}

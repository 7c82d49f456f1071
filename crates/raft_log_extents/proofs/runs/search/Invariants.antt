use Rattle.std.proofs.Common.{◌-◌, ◌≤◌, ◌<◌, slice_index_or}
use Rattle.raft_log_extents.specs.declared.run.Run.{Run}
use Rattle.raft_log_extents.proofs.runs.search.Given as goal

abbrev pub invariant-loop-high : goal.invariant-loop-high
invariant-loop-high l = record {
  some : l.low < l.high;
  within : l.high ≤ l.runs.len;
  lower : (d : Run) → (slice_index_or l.runs.items l.low d).first ≤ l.number;
  higher : (d : Run) → l.high < l.runs.len → l.number < (slice_index_or l.runs.items l.high d).first;
}

abbrev pub decreases-loop-high : goal.decreases-loop-high
decreases-loop-high l = l.high - l.low

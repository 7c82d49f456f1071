use Rattle.std.proofs.Common.{◌-◌, ◌≡◌, ◌+◌, ◌≤◌, ◌<◌, ◌++◌, take, drop, vec_len, vec_capacity}
use Rattle.raft_log_extents.specs.Entries.{entries_of}
use Rattle.raft_log_extents.specs.RunLists.{places}
use Rattle.raft_log_extents.specs.Runs.{counts}
use Rattle.raft_log_extents.proofs.RunCopies.{Has}
use Rattle.raft_log_extents.proofs.runs.Runs.copy_entries.Given as goal

abbrev pub invariant-loop-done : goal.invariant-loop-done
invariant-loop-done l = record {
  items : l.entries.items ≡ l.fn.entries.items ++ entries_of l.queue l.index (take l.done (drop l.position (places l.self)));
  len : vec_len l.entries ≡ vec_len l.fn.entries + l.done;
  capacity : vec_capacity l.entries ≡ vec_capacity l.fn.entries;
  within : l.done ≤ l.count;
  has : l.done < l.count → Has l.self.runs.items l.at (l.position + l.done);
  here : l.done < l.count → counts (take l.at l.self.runs.items) + l.within ≡ l.position + l.done;
}

abbrev pub decreases-loop-done : goal.decreases-loop-done
decreases-loop-done l = l.count - l.done

use Rattle.std.proofs.Common.{◌≡◌, ℕ, ◌+◌, ◌-◌, ◌≤◌, List, drop, length, map, take}
use Rattle.std.specs.VecDeque.{deque_capacity, deque_len}
use Rattle.raft_log_extents.specs.declared.run.Run.{Run}
use Rattle.raft_log_extents.specs.Blocks.{pieces}
use Rattle.raft_log_extents.specs.Entries.{place_of}
use Rattle.raft_log_extents.specs.Runs.{AreAdded}
use Rattle.raft_log_extents.proofs.runs.pieces.push_pieces.Given as goal

abbrev pub invariant-loop-done : goal.invariant-loop-done
invariant-loop-done l = record {
  within : l.done ≤ length l.entries;
  added : (more : List Run) × ((kept : List ℕ)
      × (AreAdded l.first l.at l.done (map place_of (take l.done l.entries)) l.fn.runs.items l.runs.items l.fn.starts.items l.starts.items more kept
      × (length more + pieces (map place_of (drop l.done l.entries)) ≤ pieces (map place_of l.entries)) × (length kept ≤ l.done)));
  runs : deque_len l.runs ≤ deque_len l.fn.runs + l.done;
  starts : deque_len l.starts ≤ deque_len l.fn.starts + l.done;
  capacities : (deque_capacity l.runs ≡ deque_capacity l.fn.runs) × (deque_capacity l.starts ≡ deque_capacity l.fn.starts);
}

abbrev pub decreases-loop-done : goal.decreases-loop-done
decreases-loop-done l = length l.entries - l.done

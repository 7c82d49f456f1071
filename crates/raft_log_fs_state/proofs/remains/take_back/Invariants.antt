use Rattle.std.proofs.Common.{◌≡◌, ◌≤◌, length, drop, reverse}
use Rattle.raft_log_fs_state.specs.Held.{before, all_written, items_of}
use Rattle.raft_log_fs_state.proofs.remains.take_back.Given as goal

-- the changes from a place on are taken back, and their bytes are there
abbrev pub invariant-loop-left : goal.invariant-loop-left
invariant-loop-left l = record {
  within : l.left ≤ length l.changes;
  content : l.content ≡ before (drop l.left l.changes) l.initial.content;
  pieces : items_of l.pieces.items ≡ reverse (all_written (drop l.left l.changes) l.initial.content);
}

abbrev pub decreases-loop-left : goal.decreases-loop-left
decreases-loop-left l = l.left

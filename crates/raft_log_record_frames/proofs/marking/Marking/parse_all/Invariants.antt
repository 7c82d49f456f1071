use Rattle.std.proofs.Common.{◌≡◌, take}
use Rattle.raft_log_record_frames.specs.Marking.{marking_of_items}
use Rattle.raft_log_record_frames.proofs.marking.Marking.parse_all.Given as goal

-- what the items so far say
abbrev pub invariant-loop-item : goal.invariant-loop-item
invariant-loop-item l = l.marking ≡ marking_of_items (take l.item-index l.items)

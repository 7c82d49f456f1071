use Rattle.std.proofs.Common.{◌≡◌, take}
use Rattle.raft_log_purge_copy.specs.Owed.{SaysSame}
use Rattle.raft_log_purge_copy.proofs.marks.add_marks.Given as goal

-- the batch says what the items so far say, and no entry was added
abbrev pub invariant-loop-item : goal.invariant-loop-item
invariant-loop-item l = SaysSame (take l.item-index l.items) l.batch × (l.batch.entries ≡ l.fn.batch.entries)

use Rattle.std.proofs.Common.{◌≡◌, ◌++◌, take, drop}
use Rattle.raft_log_record_items.specs.Placed.{written}
use Rattle.raft_log_record_items.proofs.items.set_written.Given as goal

-- the items so far are written, the others are as they were
abbrev pub invariant-loop-item : goal.invariant-loop-item
invariant-loop-item l = l.items ≡ written l.handle (take l.item-index l.fn.items) ++ drop l.item-index l.fn.items

use Rattle.std.proofs.Common.{◌≡◌, take}
use Rattle.raft_log_record_items.proofs.items.copied.Given as goal

abbrev pub invariant-loop-item : goal.invariant-loop-item
invariant-loop-item l = l.copy.items ≡ take l.item-index l.items

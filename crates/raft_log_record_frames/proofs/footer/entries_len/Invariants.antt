use Rattle.std.proofs.Common.{◌≡◌, ◌-◌, ◌^◌, min, take}
use Rattle.raft_log_record_items.specs.Placed.{entries_len}
use Rattle.raft_log_record_frames.proofs.footer.entries_len.Given as goal

abbrev pub invariant-loop-item : goal.invariant-loop-item
invariant-loop-item l = l.len ≡ min (entries_len (take l.item-index l.items)) (2 ^ 64 - 1)

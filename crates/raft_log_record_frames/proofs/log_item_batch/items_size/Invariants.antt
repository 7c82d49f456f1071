use Rattle.std.proofs.Common.{◌≡◌, ◌-◌, ◌^◌, min, take}
use Rattle.raft_log_record_frames.specs.ItemBatch.{items_size}
use Rattle.raft_log_record_frames.proofs.log_item_batch.items_size.Given as goal

abbrev pub invariant-loop-item : goal.invariant-loop-item
invariant-loop-item l = l.size ≡ min (items_size (take l.item-index l.items)) (2 ^ 64 - 1)

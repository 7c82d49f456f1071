use Rattle.std.proofs.Common.{List, ap, ◌∙◌, slice_get}
use Rattle.raft_log_record_items.specs.declared.entry.EntryIndex.{EntryIndex}
use Rattle.raft_log_record_frames.proofs.ItemBatches.{first_of_all}
use Rattle.raft_log_record_frames.proofs.log_item_batch.first_entry.Goals as goal

pub returns-in-Some : goal.returns-in-Some
returns-in-Some c =
    first_of_all c.args.items.now c.loop-item.item-index c.item-item.result c.in-EntryIndexes.entries c.in-Some.first.now c.loop-item-test.true c.item-item.is c.in-EntryIndexes.is c.loop-item.invariant
    (c.in-Some.ensures.value ∙ ap (λ (l : List EntryIndex). slice_get l 0) c.as_slice.ensures.value)

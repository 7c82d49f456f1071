use Rattle.std.proofs.Common.{◌≡◌, [], take}
use Rattle.raft_log_record_frames.specs.ItemBatch.{all_entries}
use Rattle.raft_log_record_frames.proofs.log_item_batch.first_entry.Given as goal

-- the items so far have no entries
abbrev pub invariant-loop-item : goal.invariant-loop-item
invariant-loop-item l = all_entries (take l.item-index l.items) ≡ []

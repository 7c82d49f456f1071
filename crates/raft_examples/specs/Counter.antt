-- A counter that a user keeps at a key of the log.
use Rattle.std.specs.Prelude.{ℕ, List}
use Rattle.raft_log_record_base.specs.Number.{u32_le_bytes}
use Rattle.raft_log_record_items.specs.declared.item.LogItem.{LogItem}
use Rattle.raft_log_record_items.specs.Items.{put_item}

-- the item that puts the counter `count` at a key, as four little-endian bytes
abbrev pub counter_put : ℕ → List ℕ → ℕ → LogItem
counter_put group key count = put_item group key (u32_le_bytes count)

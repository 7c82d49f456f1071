-- Counts of the entries and values in batches.
use Rattle.std.specs.Prelude.{ℕ, List, length, sum_by}
use Rattle.raft_log_record_items.specs.declared.item.LogItem.{LogItem}
use Rattle.raft_log_record_items.specs.declared.item.LogItemContent.{LogItemContent}
use Rattle.raft_log_record_items.specs.declared.item.LogItemContent.TheVariants as contents
use Rattle.raft_log_record_items.specs.declared.op_type.OpType.{OpType}
use Rattle.raft_log_record_items.specs.declared.op_type.OpType.TheVariants.{Put, Del}
use Rattle.raft_log_replay.specs.Machines.{Batch}

-- how many values the operation writes: one for a put, none for a deletion
abbrev pub written_for : OpType → ℕ
written_for Put = 1
written_for Del = 0

-- how many entries or values the content has: its entries, or one for a put
abbrev pub written_of : LogItemContent → ℕ
written_of (contents.EntryIndexes es) = length es
written_of (contents.Kv key) = written_for key.op_type
written_of (contents.Command command) = 0

-- how many entries and values these items have
abbrev pub written_in : List LogItem → ℕ
written_in xs = sum_by (λ x. written_of x.content) xs

-- how many entries and values these batches have
abbrev pub written_by : List Batch → ℕ
written_by bs = sum_by (λ b. written_in b.items) bs

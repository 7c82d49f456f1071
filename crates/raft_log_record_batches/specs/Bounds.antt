-- An upper bound for the length of a record, computed from its batch. A number in a footer has at most ten bytes, and
-- nothing is compressed.
use Rattle.std.specs.Prelude.{ℕ, ◌+◌, ◌*◌, List, length, sum_by}
use Rattle.raft_log_record_items.specs.declared.item.LogItem.{LogItem}
use Rattle.raft_log_record_items.specs.declared.item.LogItemContent.{LogItemContent}
use Rattle.raft_log_record_items.specs.declared.item.LogItemContent.TheVariants as contents
use Rattle.raft_log_record_items.specs.declared.op_type.OpType.{OpType}
use Rattle.raft_log_record_items.specs.declared.op_type.OpType.TheVariants.{Put, Del}
use Rattle.raft_log_record_items.specs.Writing.{value_of}
use Rattle.raft_log_record_frames.specs.ItemBatch.{all_entries}
use Rattle.raft_log_record_batches.specs.Batch.{Batch}

-- the length of the key and value that an operation on a key writes; a deletion writes only the key
abbrev pub operation_len : OpType → List ℕ → List ℕ → ℕ
operation_len Put key value = length key + length value
operation_len Del key value = length key

-- the length of the key and value that this content writes; 0 if it is no operation on a key
abbrev pub key_value_len : LogItemContent → ℕ
key_value_len (contents.EntryIndexes es) = 0
key_value_len (contents.Command c) = 0
key_value_len (contents.Kv kv) = operation_len kv.op_type kv.key (value_of kv)

-- the total length of the keys and values that these items write
abbrev pub keys_values_len : List LogItem → ℕ
keys_values_len items = sum_by (λ x. key_value_len x.content) items

-- The upper bound for the record of these items and these bytes of entries. It is 34, plus 32 for each item, ten for
-- each entry, and the bytes of the entries, the keys and the values.
abbrev pub record_bound : List LogItem → List ℕ → ℕ
record_bound items entries =
    34 + 32 * length items + 10 * length (all_entries items) + length entries + keys_values_len items

-- the upper bound for the record of batch `b`
abbrev pub batch_bound : Batch → ℕ
batch_bound b = record_bound b.items b.entries

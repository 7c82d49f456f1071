-- No record is longer than its bound.
use Rattle.std.proofs.Common.{ℕ, zero, suc, ◌+◌, ◌*◌, ◌/◌, ◌%◌, ◌≤◌, ◌++◌, nat_lt, true, false, if◌then◌else◌, List, [], ◌∷◌, flat_map, length, length-append, arith}
use Rattle.std.proofs.lemmas.List.Sums.{sum_by-cons}
use Rattle.raft_log_record_checksum.specs.Checksum.{crc32_of}
use Rattle.raft_log_record_base.specs.Number.{u32_le_bytes, var_bytes_within, var_u64_bytes}
use Rattle.raft_log_record_items.specs.declared.command.Command.{Command}
use Rattle.raft_log_record_items.specs.declared.command.Command.TheVariants as commands
use Rattle.raft_log_record_items.specs.declared.entry.EntryIndex.{EntryIndex}
use Rattle.raft_log_record_items.specs.declared.item.LogItem.{LogItem}
use Rattle.raft_log_record_items.specs.declared.item.LogItemContent.{LogItemContent}
use Rattle.raft_log_record_items.specs.declared.item.LogItemContent.TheVariants as contents
use Rattle.raft_log_record_items.specs.declared.op_type.OpType.{OpType}
use Rattle.raft_log_record_items.specs.declared.op_type.OpType.TheVariants as ops
use Rattle.raft_log_record_items.specs.Writing.{bytes_bytes, command_bytes, content_bytes, entries_bytes, item_bytes, items_bytes, key_value_bytes, lengths_bytes, operation_bytes, value_of}
use Rattle.raft_log_record_frames.specs.Record.{block_bytes}
use Rattle.raft_log_record_frames.proofs.Public.{four_bytes}
use Rattle.raft_log_record_frames.specs.ItemBatch.{all_entries, content_entries}
use Rattle.raft_log_record_batches.specs.Bounds.{key_value_len, keys_values_len, operation_len}
use Rattle.raft_log_record_batches.specs.Laws.{NoRecordIsLonger}

-- Numbers.

length-var_bytes_within : (k n : ℕ) → length (var_bytes_within k n) ≤ k + 1
unfolding var_bytes_within
length-var_bytes_within zero n = omega arith
length-var_bytes_within (suc k) n =
    elim (nat_lt n 128) as (λ b. length (if b then n ∷ [] else (n % 128 + 128) ∷ var_bytes_within k (n / 128)) ≤ suc k + 1)
    [ true ↦ omega arith | false ↦ omega (arith, length-var_bytes_within k (n / 128)) ]

length-var_u64_bytes : (n : ℕ) → length (var_u64_bytes n) ≤ 10
unfolding var_u64_bytes
length-var_u64_bytes n = length-var_bytes_within 9 n

length-bytes_bytes : (xs : List ℕ) → length (bytes_bytes xs) ≤ 10 + length xs
unfolding bytes_bytes
length-bytes_bytes xs = omega (arith, length-append (var_u64_bytes (length xs)) xs, length-var_u64_bytes (length xs))

-- Contents.

length-lengths_bytes : (es : List EntryIndex) → length (lengths_bytes es) ≤ 10 * length es
length-lengths_bytes [] = omega arith
length-lengths_bytes (e ∷ es) =
    omega (arith, length-append (var_u64_bytes e.entry_len) (lengths_bytes es), length-var_u64_bytes e.entry_len, length-lengths_bytes es)

length-entries_bytes : (es : List EntryIndex) → length (entries_bytes es) ≤ 20 + 10 * length es
unfolding entries_bytes
length-entries_bytes [] = omega (arith, length-var_u64_bytes 0)
length-entries_bytes (e ∷ es) =
    let count : List ℕ = var_u64_bytes (length (e ∷ es)) in
    let first : List ℕ = var_u64_bytes e.index in
    let rest : List ℕ = lengths_bytes (e ∷ es) in
    omega (arith, length-append (count ++ first) rest, length-append count first, length-var_u64_bytes (length (e ∷ es)), length-var_u64_bytes e.index, length-lengths_bytes (e ∷ es))

length-command_bytes : (c : Command) → length (command_bytes c) ≤ 11
unfolding command_bytes
length-command_bytes commands.Clean = omega arith
length-command_bytes (commands.Compact index) = omega (arith, length-var_u64_bytes index)

length-operation_bytes : (op : OpType) (key value : List ℕ) → length (operation_bytes op key value) ≤ 21 + operation_len op key value
unfolding operation_bytes
length-operation_bytes ops.Put key value =
    omega (arith, length-append (1 ∷ bytes_bytes key) (bytes_bytes value), length-bytes_bytes key, length-bytes_bytes value)
length-operation_bytes ops.Del key value = omega (arith, length-bytes_bytes key)

length-content_bytes : (c : LogItemContent) → length (content_bytes c) ≤ 22 + 10 * length (content_entries c) + key_value_len c
unfolding content_bytes key_value_bytes
length-content_bytes (contents.EntryIndexes es) = omega (arith, length-entries_bytes es)
length-content_bytes (contents.Command c) = omega (arith, length-command_bytes c)
length-content_bytes (contents.Kv kv) = omega (arith, length-operation_bytes kv.op_type kv.key (value_of kv))

-- Items.

length-item_bytes : (x : LogItem) → length (item_bytes x) ≤ 32 + 10 * length (content_entries x.content) + key_value_len x.content
unfolding item_bytes
length-item_bytes x =
    omega (arith, length-append (var_u64_bytes x.raft_group_id) (content_bytes x.content), length-var_u64_bytes x.raft_group_id, length-content_bytes x.content)

length-each : (xs : List LogItem) → length (flat_map item_bytes xs) ≤ 32 * length xs + 10 * length (all_entries xs) + keys_values_len xs
length-each [] = omega arith
length-each (x ∷ xs) =
    omega (
      arith,
      length-append (item_bytes x) (flat_map item_bytes xs),
      length-item_bytes x,
      length-each xs,
      length-append (content_entries x.content) (all_entries xs),
      sum_by-cons (λ (y : LogItem). key_value_len y.content) x xs,
    )

length-items_bytes : (xs : List LogItem) → length (items_bytes xs) ≤ 10 + 32 * length xs + 10 * length (all_entries xs) + keys_values_len xs
unfolding items_bytes
length-items_bytes xs =
    omega (arith, length-append (var_u64_bytes (length xs)) (flat_map item_bytes xs), length-var_u64_bytes (length xs), length-each xs)

-- Records.

length-block_bytes : (bytes : List ℕ) → length (block_bytes bytes) ≤ length bytes + 4
unfolding block_bytes
length-block_bytes [] = omega arith
length-block_bytes (b ∷ bs) = omega (arith, length-append (b ∷ bs) (u32_le_bytes (crc32_of (b ∷ bs))), four_bytes (crc32_of (b ∷ bs)))

pub no_record_is_longer : NoRecordIsLonger
no_record_is_longer items entries = omega (arith, length-block_bytes entries, length-items_bytes items)

-- The errors with which encoding a batch or its record can fail.
use Rattle.std.specs.Prelude.{◌≡◌, ◌⊎◌, ◌≤◌, ◌^◌, ℕ, List, [], ◌∷◌}
use Rattle.raft_log_record_base.specs.declared.errors.Error.{Error}
use Rattle.raft_log_record_base.specs.declared.errors.Error.TheVariants as errors
use Rattle.raft_log_record_items.specs.declared.op_type.OpType.{OpType}
use Rattle.raft_log_record_items.specs.declared.op_type.OpType.TheVariants as ops
use Rattle.raft_log_record_items.specs.declared.item.LogItem.{LogItem}
use Rattle.raft_log_record_items.specs.declared.item.LogItemContent.{LogItemContent}
use Rattle.raft_log_record_items.specs.declared.item.LogItemContent.TheVariants as contents
use Rattle.raft_log_record_frames.specs.Made.{IsMemoryOrFull}
use Rattle.raft_log_record_frames.specs.Record.{record_len}
use Rattle.raft_log_record_frames.specs.Marking.{mark_key}
use Rattle.raft_log_record_batches.specs.Batch.{Batch}

-- the errors of making a batch or its record: `Full`, `Memory` and `InvalidArgument`
abbrev pub IsUnmade : Error → Type 0
IsUnmade errors.Full = Unit {0}
IsUnmade errors.Memory = Unit {0}
IsUnmade (errors.InvalidArgument text) = Unit {0}
IsUnmade _ = ⊥

-- why the record of batch `b` isn't encoded: it would have 2 ^ 56 bytes or more, or memory ran out
abbrev pub IsUnrecorded : Batch → Error → Type 0
IsUnrecorded b error = IsMemoryOrFull error (record_len b.items b.entries)

-- the record of batch `b` isn't encoded, as it would have 2 ^ 56 bytes or more
abbrev pub IsOverlong : Batch → Error → Type 0
IsOverlong b error = (error ≡ errors.Full) × (2 ^ 56 ≤ record_len b.items b.entries)

-- one of these keys of group `g`, with its value, would be read as a mark of an atomic group
abbrev pub HasMark : ℕ → List (List ℕ × List ℕ) → Type 0
HasMark g [] = ⊥
HasMark g (e ∷ es) = ((g ≡ 0) × (e.0 ≡ mark_key)) ⊎ HasMark g es

-- why keys and values of a group aren't added to a batch: one would be a mark of an atomic group, or memory ran out
abbrev pub AreUnput : ℕ → List (List ℕ × List ℕ) → Error → Type 0
AreUnput g pairs errors.Memory = Unit {0}
AreUnput g pairs (errors.InvalidArgument text) = HasMark g pairs
AreUnput g pairs _ = ⊥

-- the operation puts a value: it doesn't delete the key
abbrev pub IsNoDeletion : OpType → Type 0
IsNoDeletion ops.Put = Unit {0}
IsNoDeletion ops.Del = ⊥

-- the item is no tombstone: it is a run of entries, or puts a value
abbrev pub IsNoMark : LogItemContent → Type 0
IsNoMark (contents.EntryIndexes es) = Unit {0}
IsNoMark (contents.Command c) = ⊥
IsNoMark (contents.Kv kv) = IsNoDeletion kv.op_type

-- one of these items is no tombstone
abbrev pub HasNoMark : List LogItem → Type 0
HasNoMark [] = ⊥
HasNoMark (x ∷ xs) = IsNoMark x.content ⊎ HasNoMark xs

-- why items aren't added to a batch as tombstones: one of them is no tombstone, or memory ran out
abbrev pub AreUnmarked : List LogItem → Error → Type 0
AreUnmarked items errors.Memory = Unit {0}
AreUnmarked items (errors.InvalidArgument text) = HasNoMark items
AreUnmarked items _ = ⊥

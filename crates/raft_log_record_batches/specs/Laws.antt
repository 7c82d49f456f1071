-- Laws of the upper bound for a record's length. No record is longer than its bound. Each addition to a batch raises
-- the bound by at most a sum that depends only on what is added. If the bound is below 2 ^ 56, the record is not too
-- long.
use Rattle.std.specs.Prelude.{◌≡◌, ◌≢◌, ℕ, ◌+◌, ◌*◌, ◌≤◌, ◌<◌, ◌^◌, List, [], ◌∷◌, length}
use Rattle.raft_log_record_base.specs.declared.errors.Error.{Error}
use Rattle.raft_log_record_base.specs.declared.errors.Error.TheVariants as errors
use Rattle.raft_log_record_items.specs.declared.command.Command.{Command}
use Rattle.raft_log_record_items.specs.declared.command.Command.TheVariants as commands
use Rattle.raft_log_record_items.specs.declared.item.LogItem.{LogItem}
use Rattle.raft_log_record_items.specs.Items.{del_item}
use Rattle.raft_log_record_frames.specs.Made.{IsMemoryOrFull}
use Rattle.raft_log_record_frames.specs.Record.{record_len}
use Rattle.raft_log_record_frames.specs.ItemBatch.{command_item}
use Rattle.raft_log_record_batches.specs.Batch.{AddsItem, Batch, Becomes, Puts, empty_batch, with_batch}
use Rattle.raft_log_record_batches.specs.Entries.{AddsEntries, IsEntriesRefusal, MayHold, bytes_len, entries_item}
use Rattle.raft_log_record_batches.specs.Bounds.{batch_bound, record_bound}

-- no record is longer than its upper bound
abbrev pub NoRecordIsLonger : Type 0
NoRecordIsLonger =
    (items : List LogItem) (entries : List ℕ) → record_len items entries ≤ record_bound items entries

-- How much each addition raises the upper bound of a batch. An empty batch has the bound 34. Adding entries raises it
-- by at most the given sum, and any other addition by exactly the given sum. Merging another batch adds that batch's
-- bound, less 34.
pub record AdditionsRaise : Type 0 where
  pub nothing : (capacity buffer : ℕ) → batch_bound (empty_batch capacity buffer) ≡ 34
  pub entries : (old new : Batch) (g : ℕ) (indexes : List ℕ) (entries : List (List ℕ))
      → AddsEntries old new g indexes entries
      → batch_bound new ≤ batch_bound old + 32 + 10 * length entries + bytes_len entries
  pub command : (old new : Batch) (g : ℕ) (c : Command) → AddsItem old new (command_item g c)
      → batch_bound new ≡ batch_bound old + 32
  pub put : (old new : Batch) (g : ℕ) (key value : List ℕ) → Puts old new g key value
      → batch_bound new ≡ batch_bound old + 32 + length key + length value
  pub deletion : (old new : Batch) (g : ℕ) (key : List ℕ) → AddsItem old new (del_item g key)
      → batch_bound new ≡ batch_bound old + 32 + length key
  pub batch : (old new other : Batch) → Becomes (with_batch old other) new
      → batch_bound new + 34 ≡ batch_bound old + batch_bound other

-- If adding entries keeps a batch within the limit on the bytes of entries, the addition doesn't fail with `Full`.
abbrev pub EntriesThatFitAreNotFull : Type 0
EntriesThatFitAreNotFull = (b : Batch) (indexes : List ℕ) (entries : List (List ℕ)) (error : Error)
    → MayHold b entries → IsEntriesRefusal error (length b.entries) indexes entries → error ≢ errors.Full

-- If the bound of a batch is below 2 ^ 56, building its record fails only for lack of memory.
abbrev pub BoundedRecordsAreMade : Type 0
BoundedRecordsAreMade = (b : Batch) (error : Error) → batch_bound b < 2 ^ 56
    → IsMemoryOrFull error (record_len b.items b.entries) → error ≡ errors.Memory

-- the record of these items and entries has `len` bytes, and its upper bound is `bound`
abbrev pub HasLenAndBound : List LogItem → List ℕ → ℕ → ℕ → Type 0
HasLenAndBound items entries len bound = (record_len items entries ≡ len) × (record_bound items entries ≡ bound)

-- Two examples. The record of a `Clean` of group 1 has 24 bytes, and its bound is 66. The record of two entries of
-- group 7, which have two and three bytes, has 36 bytes, and its bound is 91.
pub record WorkedRecords : Type 0 where
  pub clean : HasLenAndBound (command_item 1 commands.Clean ∷ []) [] 24 66
  pub two : HasLenAndBound
      (entries_item 7 0 (5 ∷ 6 ∷ []) ((97 ∷ 98 ∷ []) ∷ (99 ∷ 100 ∷ 101 ∷ []) ∷ []) ∷ [])
      (97 ∷ 98 ∷ 99 ∷ 100 ∷ 101 ∷ []) 36 91

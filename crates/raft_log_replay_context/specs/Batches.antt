-- The batches of a queue that a replay context reads, and why reading some of them fails.
use Rattle.std.specs.Prelude.{◌≡◌, ◌-◌, ◌^◌, ℕ, min, List, [], ◌∷◌, ◌++◌, Option, Some, None}
use Rattle.std.specs.List.{AllZip}
use Rattle.std.specs.String.{string_bytes}
use Rattle.raft_log_record_base.specs.declared.errors.Error.{Error}
use Rattle.raft_log_record_base.specs.declared.errors.Error.TheVariants as errors
use Rattle.raft_log_record_base.specs.declared.pipe_log.FileId.{FileId}
use Rattle.raft_log_record_base.specs.declared.pipe_log.LogQueue.{LogQueue}
use Rattle.raft_log_record_items.specs.declared.item.LogItem.{LogItem}
use Rattle.raft_log_model_laws.specs.Meaning.{Slot}
use Rattle.raft_log_model_laws.specs.Table.{content}
use Rattle.raft_log_model_laws.specs.Tidy.{Tidy}
use Rattle.raft_log_memtable_index.specs.Replayed.{standing}
use Rattle.raft_log_memtables.specs.Tables.{counts, shown_of}
use Rattle.raft_log_replay.specs.Machines.{Batch}
use Rattle.raft_log_replay_context.specs.declared.context.MemTableRecoverContext.{MemTableRecoverContext}
use Rattle.raft_log_replay_context.specs.Records.{counted, record_read, records_of, AreHealthy, ReadRecord}
use Rattle.raft_log_replay_context.specs.Pieces.{invalid_mark}
use Rattle.raft_log_replay_context.specs.Context.{tables_of, written_to, HasRead}
use Rattle.raft_log_replay_context.specs.Written.{written_by}

-- The records are in order.
-- - `tidy`: between the begin and the end of an atomic group, nothing takes effect for its raft groups.
-- - `healthy`: in each raft group, the runs that take effect leave no hole, and their indexes are below 2 ^ 64 - 1.
pub record AreOrderly (rs : List ReadRecord) : Type 0 where
  pub tidy : Tidy (records_of rs)
  pub healthy : (g : ℕ) → AreHealthy (counted g rs)

-- there is one more record `r`, and `rs` with `r` after them are not in order
abbrev pub IsDisorder : List ReadRecord → Option ReadRecord → Type 0
IsDisorder rs None = ⊥
IsDisorder rs (Some r) = AreOrderly (rs ++ r ∷ []) → ⊥

-- Why a batch of Rewrite isn't read. `r` is the record that the batch decodes to, or `None` if the batch has a broken
-- mark or two marks. The error is `Corruption`, with the text `invalid_mark`, only if `r` is `None`. It may be `Memory`
-- in any case.
abbrev pub RewriteIsUnread : Option ReadRecord → Error → Type 0
RewriteIsUnread r (errors.Corruption text) = (r ≡ None) × (string_bytes text ≡ invalid_mark)
RewriteIsUnread r errors.Memory = Unit {0}
RewriteIsUnread r _ = ⊥

-- Why a batch isn't read after the records `rs`. `r` is the record that the batch decodes to, or `None` if it has a
-- broken mark of an atomic group, or two marks. The error is `Hole` only if `rs` with `r` after them are not in order
-- (`AreOrderly`). It is `Corruption`, with the text `invalid_mark`, only if `r` is `None`. It may be `Memory` in any
-- case.
abbrev pub IsBatchDeclined : List ReadRecord → Option ReadRecord → Error → Type 0
IsBatchDeclined rs r errors.Hole = IsDisorder rs r
IsBatchDeclined rs r (errors.Corruption text) = (r ≡ None) × (string_bytes text ≡ invalid_mark)
IsBatchDeclined rs r errors.Memory = Unit {0}
IsBatchDeclined rs r _ = ⊥

-- why the context `old` doesn't read a batch with these items in this file, whatever records it has read
abbrev pub ReplayDeclined : FileId → List LogItem → MemTableRecoverContext → Error → Type 0
ReplayDeclined file items old error =
    (rs : List ReadRecord) → HasRead file.queue rs old
    → IsBatchDeclined rs (record_read file.queue file.seq items) error

-- Why the contexts of two segments aren't merged; `rs` are the records of both, one segment after the other. The error
-- is `Hole` only if `rs` are not in order. It may be `Memory` in any case.
abbrev pub StayApart : List ReadRecord → Error → Type 0
StayApart rs errors.Hole = AreOrderly rs → ⊥
StayApart rs errors.Memory = Unit {0}
StayApart rs _ = ⊥

-- why the context `old` isn't merged with `later`, that of the next segment, whatever records the two have read
abbrev pub MergeDeclined : LogQueue → MemTableRecoverContext → MemTableRecoverContext → Error → Type 0
MergeDeclined queue old later error =
    (xs ys : List ReadRecord) → HasRead queue xs old → HasRead queue ys later → StayApart (xs ++ ys) error

-- `rs` has one record for each batch of `bs`: the one that reading the batch gives
abbrev pub AreRecordsRead : LogQueue → List Batch → List ReadRecord → Type 0
AreRecordsRead queue bs rs = AllZip (λ b r. record_read queue b.file b.items ≡ Some r) bs rs

-- The context has read these batches of a queue. Each batch decodes to a record, and the context has read these
-- records. `written_to` counts their entries and values, but at most 2 ^ 64 - 1.
pub record HasReadBatches (queue : LogQueue) (bs : List Batch) (c : MemTableRecoverContext) : Type 0 where
  pub records : List ReadRecord
  pub told : AreRecordsRead queue bs records
  pub read : HasRead queue records c
  pub written : written_to c ≡ min (written_by bs) (2 ^ 64 - 1)

-- each of the batches decodes to a record, and these records are not in order
pub record AreDisorderly (queue : LogQueue) (bs : List Batch) : Type 0 where
  pub records : List ReadRecord
  pub told : AreRecordsRead queue bs records
  pub disorder : AreOrderly records → ⊥

-- Why a context fails to read batches of a queue. The error is `Hole` only if their records are not in order, for
-- example because a run leaves a hole. It is `Corruption`, with the text `invalid_mark`, only if some batch has a
-- broken mark or two marks. It may be `Memory` in any case.
abbrev pub Declines : LogQueue → List Batch → Error → Type 0
Declines queue bs errors.Hole = AreDisorderly queue bs
Declines queue bs (errors.Corruption text) =
    ((rs : List ReadRecord) → AreRecordsRead queue bs rs → ⊥) × (string_bytes text ≡ invalid_mark)
Declines queue bs errors.Memory = Unit {0}
Declines queue bs _ = ⊥

-- Two contexts have read the same records of a queue. If these are in order, both have the same entries and values in
-- each group, at the same places and in the same files. The same groups count, too.
pub record HaveReadAlike (queue : LogQueue) (m n : MemTableRecoverContext) : Type 0 where
  pub records : List ReadRecord
  pub first : HasRead queue records m
  pub second : HasRead queue records n
  pub shows : AreOrderly records → (g : ℕ) (s : Slot)
      → content (standing (shown_of (tables_of m) g)) s ≡ content (standing (shown_of (tables_of n) g)) s
  pub counting : AreOrderly records → (g : ℕ) → counts (tables_of m) g ≡ counts (tables_of n) g

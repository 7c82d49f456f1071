-- Replay machines. During recovery, such a machine takes the batches of a queue one after another; the tables of all
-- groups are an example. `reads` says which batches a machine has read. `declines` says with which errors a machine may
-- fail at which batches.
use Rattle.std.specs.Prelude.{ℕ, List, [], ◌∷◌, ◌++◌}
use Rattle.raft_log_record_base.specs.declared.errors.Error.{Error}
use Rattle.raft_log_record_base.specs.declared.pipe_log.FileId.{FileId}
use Rattle.raft_log_record_base.specs.declared.pipe_log.LogQueue.{LogQueue}
use Rattle.raft_log_record_items.specs.declared.item.LogItem.{LogItem}

-- a batch that was read: the number of its file, and its items
pub record Batch : Type 0 where
  pub file : ℕ
  pub items : List LogItem

-- the batch with these items in this file
abbrev pub batch_in : FileId → List LogItem → Batch
batch_in file items = record { file = file.seq; items = items }

-- if `old` had read some batches of the file's queue, `new` has read these and then this batch
abbrev pub TakesBatch : {M : Type 0} → (LogQueue → List Batch → M → Type 0) → FileId → List LogItem → M → M
    → Type 0
TakesBatch reads file items old new =
    (before : List Batch) → reads file.queue before old
    → reads file.queue (before ++ batch_in file items ∷ []) new

-- The machine fails at this batch with `error`. If it had read some batches, `declines` allows this error for these
-- batches and then this one.
abbrev pub DeclinesBatch : {M : Type 0} → (LogQueue → List Batch → M → Type 0)
    → (LogQueue → List Batch → Error → Type 0) → FileId → List LogItem → M → Error → Type 0
DeclinesBatch reads declines file items machine error =
    (before : List Batch) → reads file.queue before machine
    → declines file.queue (before ++ batch_in file items ∷ []) error

-- If `old` has read some batches, and `later` those that follow them, then `new` has read all of them.
abbrev pub JoinsLater : {M : Type 0} → (List Batch → M → Type 0) → M → M → M → Type 0
JoinsLater reads old later new =
    (xs ys : List Batch) → reads xs old → reads ys later → reads (xs ++ ys) new

-- `old` and `later` fail to merge, with `error`. If `old` has read some batches, and `later` those that follow them,
-- `declines` allows this error for all of them.
abbrev pub DeclinesLater : {M : Type 0} → (List Batch → M → Type 0) → (List Batch → Error → Type 0) → M → M
    → Error → Type 0
DeclinesLater reads declines old later error =
    (xs ys : List Batch) → reads xs old → reads ys later → declines (xs ++ ys) error

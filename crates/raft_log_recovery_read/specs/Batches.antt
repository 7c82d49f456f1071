-- Batches that were read from a file and passed to a replay machine, which applies them one after another. `reads`
-- relates batches to a machine that has read them. `declines` relates batches to the errors with which a machine may
-- reject the last of them.
use Rattle.std.specs.Prelude.{◌≡◌, Option, Some, None, List, ◌++◌, map}
use Rattle.raft_log_record_base.specs.declared.errors.Error.{Error}
use Rattle.raft_log_record_base.specs.declared.pipe_log.FileId.{FileId}
use Rattle.raft_log_record_items.specs.declared.item.LogItem.{LogItem}
use Rattle.raft_log_replay.specs.Machines.{Batch, batch_in}

-- the batches with these items, in file `id`
abbrev pub said : FileId → List (List LogItem) → List Batch
said id batches = map (batch_in id) batches

-- if the machine `old` had read some batches, `new` has read them and then these
abbrev pub TakesBatches : {M : Type 0} → (List Batch → M → Type 0) → List Batch → M → M → Type 0
TakesBatches reads batches old new = (before : List Batch) → reads before old → reads (before ++ batches) new

-- `batches` are `first` and then `rest`. The machine got `first` and rejected the last of these with `error`:
-- `declines` holds for `error` and all batches that the machine got, the rejected one included.
pub record DeclinesSome {M : Type 0} (reads : List Batch → M → Type 0) (declines : List Batch → Error → Type 0)
    (batches : List Batch) (machine : M) (error : Error) : Type 0 where
  pub first : List Batch
  pub rest : List Batch
  pub split : batches ≡ first ++ rest
  pub declined : (before : List Batch) → reads before machine → declines (before ++ first) error

-- These batches were passed to the machine `old`, one after another. It accepted them all, and is `new`, or rejected
-- one with this error.
abbrev pub HasTaken : {M : Type 0} → (List Batch → M → Type 0) → (List Batch → Error → Type 0) → List Batch
    → M → M → Option Error → Type 0
HasTaken reads declines batches old new None = TakesBatches reads batches old new
HasTaken reads declines batches old new (Some error) = DeclinesSome reads declines batches old error

-- The memory that a write of a batch needs before it begins, why a write fails, and what becomes of the batch.
use Rattle.std.specs.Prelude.{◌≡◌, ◌⊎◌, ◌≤◌, ◌+◌, [], length, vec_capacity, vec_len}
use Rattle.raft_log_record_base.specs.declared.errors.Error.{Error}
use Rattle.raft_log_record_base.specs.declared.errors.Error.TheVariants as errors
use Rattle.raft_log_record_batches.specs.Batch.{Batch, max_kept_len}
use Rattle.raft_log_record_batches.specs.declared.log_batch.BatchState.TheVariants.{Populated}
use Rattle.raft_log_purge.specs.raft_log_engine_laws.specs.EngineState.{IsWellMarked, IsWritable, EngineState}
use Rattle.raft_log_purge.specs.raft_log_engine_laws.specs.Writing.{IsUnfit, PipesRefused}
use Rattle.raft_log_engine_core.specs.declared.writing.Room.{Room}

-- `room` has an empty list with capacity for all items of batch `b`
pub record HasListFor (b : Batch) (room : Room) : Type 0 where
  pub none : room.items.items ≡ []
  pub fits : vec_len room.items + length b.items ≤ vec_capacity room.items

-- The errors with which a write rejects batch `b`, whatever the memtables hold:
-- - `InvalidArgument`: it was signed or written already, or its marks of an atomic group are broken
-- - `Memory`: memory ran out
abbrev pub IsUnfitItself : Batch → Error → Type 0
IsUnfitItself b (errors.InvalidArgument text) = IsWritable b.state → IsWellMarked b → ⊥
IsUnfitItself b errors.Memory = Unit {0}
IsUnfitItself b _ = ⊥

-- A write of batch `b` failed with `error`. Either the batch was rejected, and nothing was done; or Append's pipe
-- failed to append its record.
abbrev pub PutFails : Batch → Error → EngineState → EngineState → Type 0
PutFails b error s t = (IsUnfit b s.tables error × (t ≡ s)) ⊎ PipesRefused b error s t

-- Batch `old` was written and is `new` now. Unless `old` was empty, the buffer of `new` has at most `max_kept_len`
-- bytes.
abbrev pub KeepsLittle : Batch → Batch → Type 0
KeepsLittle old new = (old.items ≡ []) ⊎ (new.buffer ≤ max_kept_len)

-- if the batch could be written before a call (`old`), it still can be written after it (`new`)
abbrev pub StaysWritable : Batch → Batch → Type 0
StaysWritable old new = IsWritable old.state → IsWritable new.state

-- The write of batch `old` failed. Either the batch was rejected, and nothing was done; or its record is encoded now,
-- in the batch `new`.
abbrev pub IsMadeIfTried : Error → Batch → Batch → EngineState → EngineState → Type 0
IsMadeIfTried error old new s t = (IsUnfit old s.tables error × (t ≡ s)) ⊎ (new.state ≡ Populated)

-- The write of batch `old` failed, in one of three ways:
-- - The batch was rejected, and nothing was done.
-- - Its record is encoded now, in the batch `new`.
-- - The error is `Failed`.
abbrev pub IsMadeUnlessFailed : Error → Batch → Batch → EngineState → EngineState → Type 0
IsMadeUnlessFailed error old new s t = IsMadeIfTried error old new s t ⊎ (error ≡ errors.Failed)

-- An engine that two threads share. Each writes a batch with a sync.
use Rattle.std.specs.Prelude.{◌≡◌, ℕ, true, List, Option, None, Some, Result, Err, IfOk}
use Rattle.raft_log_record_base.specs.declared.errors.Error.{Error}
use Rattle.raft_log_record_base.specs.declared.errors.Error.TheVariants as errors
use Rattle.raft_log_record_batches.specs.Batch.{Batch}
use Rattle.raft_log_engine.specs.raft_log_engine_laws.specs.EngineState.{EngineState, LogDirectories}
use Rattle.raft_log_engine.specs.raft_log_engine_core.specs.ModelCalls.{IsEngineLog}
use Rattle.raft_log_world.specs.Model.{ModelLog}
use Rattle.raft_log_shared.specs.declared.served.Served.{Served}
use Rattle.raft_log_shared.specs.Calls.{IsExplained}
use Rattle.raft_log_shared.specs.Durable.{IsDurable}
use Rattle.raft_log_shared.specs.Receipts.{IsStamped, Stamp}

-- A write of a batch with a sync returned `result`. It has this receipt, or memory ran out before the engine was
-- called.
abbrev pub IsAnswered : Batch → Result ℕ Error → Option Stamp → Type 0
IsAnswered batch result None = result ≡ Err errors.Memory
IsAnswered batch result (Some receipt) = IsStamped batch true result receipt

-- If this write of a batch returned `Ok`, the batch is durable in the model log `last`. `last` is what `log` becomes
-- after the calls of this history.
abbrev pub IsKept : ModelLog → List Served → ModelLog → Batch × Result ℕ Error → Type 0
IsKept log history last write = IfOk write.1 (λ len. (place : ℕ) × IsDurable log history place write.0 last)

-- A batch was written while other threads may write, and the write has ended. Each model log of `began` became one that
-- keeps the batch (`IsKept`), after a history of calls.
abbrev pub IsConfirmed : (LogDirectories → ModelLog → Type 0) → Batch × Result ℕ Error → Type 0
IsConfirmed began write = (home : LogDirectories) (log : ModelLog) → began home log
    → ∥ ((history : List Served) × (last : ModelLog) × IsExplained log history last
    × IsKept log history last write) ∥₁

-- Two threads wrote the batches `one` and `other` with a sync. The model log was `log` before, and is `last` after a
-- history of calls. If a write returned `Ok`, its batch is durable in `last`. `is` holds for `last`.
pub record KeepsBoth (one other : Batch × Result ℕ Error) (log : ModelLog) (is : ModelLog → Type 0) : Type 0 where
  pub history : List Served
  pub last : ModelLog
  pub explained : IsExplained log history last
  pub of_one : IsKept log history last one
  pub of_other : IsKept log history last other
  pub is_last : is last

-- Two threads shared an engine with the state `s` and wrote these batches. Its state is `t` now. Each model log that
-- the engine had open has become one that it has open now, with both batches (`KeepsBoth`).
abbrev pub SharesAndWrites : Batch × Result ℕ Error → Batch × Result ℕ Error → EngineState → EngineState → Type 0
SharesAndWrites one other s t = (home : LogDirectories) (log : ModelLog) → IsEngineLog home s log
    → ∥ KeepsBoth one other log (IsEngineLog home t) ∥₁

-- What the receipt of a write with a sync says of the log: the batch that was written is durable.
use Rattle.std.specs.Prelude.{◌≡◌, ◌++◌, ℕ, true, List, ◌∷◌, length, Ok}
use Rattle.raft_log_model_laws.specs.Groups.{taken}
use Rattle.raft_log_engine_laws.specs.EngineState.{said_of}
use Rattle.raft_log_record_batches.specs.Batch.{Batch}
use Rattle.raft_log_world.specs.declared.event.Answer.TheVariants.{Done}
use Rattle.raft_log_world.specs.Kept.{IsPart, durable, pending_in, written_in}
use Rattle.raft_log_world.specs.Model.{BatchRecord, ModelLog}
use Rattle.raft_log_shared.specs.declared.served.Served.{Served}
use Rattle.raft_log_shared.specs.Calls.{IsExplained, events_of, wrote}
use Rattle.raft_log_shared.specs.Receipts.{IsIn, IsStamped, Stamp}

-- the batches that these calls asked to write, whether or not the calls succeeded
abbrev pub written_by : List Served → List BatchRecord
written_by history = written_in said_of (events_of history)

-- The batch was written at `place` of the history, and it is durable in the model log `last`. The durable contents of
-- `last` are those of `log` after the batches `before`, this batch, and the batches `after`. `before` are some of the
-- batches that were pending in `log` or written earlier. `after` are some of those that were written later.
pub record IsDurable (log : ModelLog) (history : List Served) (place : ℕ) (batch : Batch) (last : ModelLog)
    : Type 0 where
  pub old : List Served
  pub new : List Served
  pub is : history ≡ old ++ (wrote batch Done ∷ new)
  pub at : length old ≡ place
  pub before : List BatchRecord
  pub after : List BatchRecord
  pub contents : durable last ≡ taken (durable log) (before ++ (said_of batch ∷ after))
  pub earlier : IsPart before (pending_in log ++ written_by old)
  pub later : IsPart after (written_by new)

-- Suppose a write with a sync returned `Ok`, and a history has the records of its receipt. Then the batch is durable in
-- the model log after this history. This holds for any model log `log` before the history.
abbrev pub SyncedWritesAreDurable : Type 0
SyncedWritesAreDurable =
    (log last : ModelLog) (history : List Served) (stamp : Stamp) (batch : Batch) (len : ℕ)
    → IsExplained log history last → IsIn history stamp → IsStamped batch true (Ok len) stamp
    → IsDurable log history stamp.written.0 batch last

-- Writing the change that a request makes to its voter.
use Rattle.std.specs.Prelude.{◌≡◌, ◌<◌, ◌^◌, ℕ, false}
use Rattle.raft_log_record_base.specs.declared.errors.Error.{Error}
use Rattle.raft_log_record_base.specs.declared.errors.Error.TheVariants as errors
use Rattle.raft_log_record_batches.specs.Batch.{Batch}
use Rattle.raft_log_record_frames.specs.Record.{record_len}
use Rattle.raft_log_engine.specs.raft_log_engine_laws.specs.EngineState.{EngineState}
use Rattle.raft_log_engine.specs.raft_log_engine_laws.specs.Writing.{NotWritten, WritesBytes}
use Rattle.raft_voter_messages.specs.declared.request.Request.{Request}
use Rattle.raft_voter_outline.specs.declared.outline.decision.Change.{Change}
use Rattle.raft_voter_durability_laws.specs.Requests.{SaysChange}

-- the change `c` for the request `q` was encoded in a batch, which was written without a sync
pub record WritesChange (q : ℕ × Request) (c : Change) (s t : EngineState) : Type 0 where
  pub batch : Batch
  pub len : ℕ
  pub says : SaysChange q.0 q.1 c batch
  pub writes : WritesBytes batch false len s t

-- Writing the change `c` for the request `q` failed with `error`:
-- - `unsaid`: memory ran out before the write, and nothing changed
-- - `unwritten`: the change was encoded in a batch, and the write of this batch failed, though its record has fewer
--   than 2^56 bytes
pub data FailsToWriteChange (q : ℕ × Request) (c : Change) (error : Error) (s t : EngineState) : Type 0 where
  unsaid : error ≡ errors.Memory → t ≡ s → FailsToWriteChange q c error s t
  unwritten : (batch : Batch) → SaysChange q.0 q.1 c batch → record_len batch.items batch.entries < 2 ^ 56
      → NotWritten batch error s t → FailsToWriteChange q c error s t

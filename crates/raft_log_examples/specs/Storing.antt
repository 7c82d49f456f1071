-- What storing entries with a key does to a log.
use Rattle.std.specs.Prelude.{ℕ, List, true}
use Rattle.raft_log_engine.specs.raft_log_record_batches.specs.Batch.{Batch, Puts, empty_batch}
use Rattle.raft_log_engine.specs.raft_log_record_batches.specs.Entries.{AddsEntries}
use Rattle.raft_log_engine.specs.raft_log_record_batches.specs.Places.{AddsBytes}
use Rattle.raft_log_engine.specs.raft_log_engine_laws.specs.EngineState.{EngineState}
use Rattle.raft_log_engine.specs.raft_log_engine_laws.specs.Writing.{WritesBytes}

-- One batch was written in state `s` and synced, which led to state `t`. The batch has these entries of group 1 at
-- these indexes, and then a put of `value` under `key` in the same group.
pub record StoresTogether (indexes : List ℕ) (entries : List (List ℕ)) (key value : List ℕ) (s t : EngineState)
    : Type 0 where
  pub filled : Batch
  pub run : AddsEntries (empty_batch 0 0) filled 1 indexes entries
  pub bytes : AddsBytes (empty_batch 0 0) filled entries
  pub batch : Batch
  pub put : Puts filled batch 1 key value
  pub len : ℕ
  pub writes : WritesBytes batch true len s t

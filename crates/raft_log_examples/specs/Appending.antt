-- What appending a line does to a log.
use Rattle.std.specs.Prelude.{◌≡◌, ◌+◌, ℕ, List, [], ◌∷◌, Option, unwrap_or, true}
use Rattle.raft_log_engine.specs.raft_log_record_batches.specs.Batch.{Batch, empty_batch}
use Rattle.raft_log_engine.specs.raft_log_record_batches.specs.Entries.{AddsEntries}
use Rattle.raft_log_engine.specs.raft_log_record_batches.specs.Places.{AddsBytes}
use Rattle.raft_log_engine.specs.raft_log_engine_laws.specs.EngineState.{EngineState}
use Rattle.raft_log_engine.specs.raft_log_engine_laws.specs.Reading.{ReadsLast}
use Rattle.raft_log_engine.specs.raft_log_engine_laws.specs.Writing.{WritesBytes}

-- The last index of group 1 was read, and `index` is the one after it, or 1 if the group has no entry. Then a batch was
-- written with a sync. Its only entry is the line, at `index`. The engine's state is `s` before this, and `t` after it.
pub record AppendsLine (line : List ℕ) (index : ℕ) (s t : EngineState) : Type 0 where
  pub last : Option ℕ
  pub told : ReadsLast s 1 last
  pub next : index ≡ unwrap_or last 0 + 1
  pub batch : Batch
  pub entry : AddsEntries (empty_batch 0 0) batch 1 (index ∷ []) (line ∷ [])
  pub bytes : AddsBytes (empty_batch 0 0) batch (line ∷ [])
  pub len : ℕ
  pub writes : WritesBytes batch true len s t

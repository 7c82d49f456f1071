-- The engine as a log of the model: the answers of its calls.
use Rattle.std.specs.Prelude.{◌≡◌, ℕ, Bool, true, false, List}
use Rattle.raft_log_engine.specs.raft_log_dual_pipes.specs.Pipes.{LogRecordValue}
use Rattle.raft_log_engine.specs.raft_log_engine_laws.specs.EngineState.{LogDirectories, LogMap, EngineState, has_failed, said_of}
use Rattle.raft_log_engine.specs.raft_log_engine_core.specs.ModelCalls.{IsEngineLog}
use Rattle.raft_log_engine.specs.raft_log_engine_laws.specs.Holding.{Represents}
use Rattle.raft_log_engine.specs.raft_log_record_batches.specs.Batch.{Batch}
use Rattle.raft_log_world.specs.declared.event.Answer.{Answer}
use Rattle.raft_log_world.specs.declared.event.Answer.TheVariants.{Entries, Keys, Refused, Failed}
use Rattle.raft_log_world.specs.declared.event.Call.{Call}
use Rattle.raft_log_world.specs.Model.{ModelLog, Serves}
use Rattle.raft_log_world.specs.Reads.{all_bytes, pairs_of}

-- the answer of a call that failed: `Failed` if the engine has failed, otherwise `Refused`
abbrev pub failure_of : Bool → Answer
failure_of true = Failed
failure_of false = Refused

-- the answer has these entries; or it is `Refused`, for example if there was no memory for them
abbrev pub HasCopied : List (List ℕ) → Answer → Type 0
HasCopied entries (Entries told) = all_bytes told.items ≡ entries
HasCopied entries Refused = Unit {0}
HasCopied entries _ = ⊥

-- the answer has these keys and values; or it is `Refused`, for example if there was no memory for them
abbrev pub HasCopiedKeys : List (List ℕ × List ℕ) → Answer → Type 0
HasCopiedKeys pairs (Keys told) = pairs_of told.items ≡ pairs
HasCopiedKeys pairs Refused = Unit {0}
HasCopiedKeys pairs _ = ⊥

-- A call of engine `s` had this answer, and the engine is `t` after the call:
-- - If engine `s` had the contents `m` and these pending batches, the model log may give this answer. Engine `t`
--   represents what the model log becomes.
-- - If engine `s` had failed, the answer is `Failed`, and nothing changed.
pub record ServesAs (s : EngineState) (call : Call Batch) (answer : Answer) (t : EngineState) : Type 0 where
  pub runs : (home : LogDirectories) (m : LogMap) (pending : List LogRecordValue) → Represents home s m pending
      → (next : ModelLog) × Serves said_of m pending call answer next × IsEngineLog home t next
  pub fails : has_failed s ≡ true → (answer ≡ Failed) × (t ≡ s)

-- The history of a shared engine: the calls that the engine served, in order, each with its answer. The model log of
-- `raft_log_world` explains a history if it gives the same answers. `began` are the model logs that the engine had open
-- when it was shared.
use Rattle.std.specs.Prelude.{◌++◌, false, List, [], ◌∷◌, map, Result, Ok, Err}
use Rattle.raft_log_engine_laws.specs.EngineState.{EngineState, LogDirectories, said_of}
use Rattle.raft_log_engine_core.specs.ModelCalls.{IsEngineLog}
use Rattle.raft_log_record_base.specs.declared.errors.Error.{Error}
use Rattle.raft_log_record_base.specs.declared.errors.Error.TheVariants as errors
use Rattle.raft_log_record_batches.specs.Batch.{Batch}
use Rattle.raft_log_world.specs.declared.event.Answer.{Answer}
use Rattle.raft_log_world.specs.declared.event.Answer.TheVariants.{Done, Failed, Refused}
use Rattle.raft_log_world.specs.declared.event.Call.{Call}
use Rattle.raft_log_world.specs.declared.event.Call.TheVariants.{Sync, Write}
use Rattle.raft_log_world.specs.declared.event.Event.{Event}
use Rattle.raft_log_world.specs.declared.event.Event.TheVariants.{Serve}
use Rattle.raft_log_world.specs.Explained.{Explains}
use Rattle.raft_log_world.specs.Model.{ModelLog}
use Rattle.raft_log_world.specs.Questions.{contents_of}
use Rattle.raft_log_world.specs.Reads.{Contents}
use Rattle.raft_log_shared.specs.declared.served.Served.{Served}

-- the answer in the history for a call with this result: `Failed` if the engine has failed, `Refused` for any other
-- error
abbrev pub answer_of : {A : Type 0} → Result A Error → Answer
answer_of (Ok value) = Done
answer_of (Err errors.Failed) = Failed
answer_of (Err error) = Refused

-- the record of a batch that was written without a sync
abbrev pub wrote : Batch → Answer → Served
wrote batch answer = record { call = Write batch false; answer = answer }

-- the record of a sync
abbrev pub synced : Answer → Served
synced answer = record { call = Sync; answer = answer }

-- the calls of these records, as events of the model
abbrev pub events_of : List Served → List (Event Batch (Unit {0}))
events_of history = map (λ s. Serve s.call) history

-- from `log` on, the model log gives the answers of this history, one after another; `last` is the model log after that
abbrev pub IsExplained : ModelLog → List Served → ModelLog → Type 0
IsExplained log history last = Explains said_of log (events_of history) (map (λ s. s.answer) history) last

-- after the calls of this history, the model log `log` is one that the engine `e` has open
abbrev pub Leads : LogDirectories → ModelLog → List Served → EngineState → Type 0
Leads home log history e = (last : ModelLog) × IsExplained log history last × IsEngineLog home e last

-- each model log of `began` is, after the calls of this history, one that the engine `e` has open
abbrev pub AllLead : (LogDirectories → ModelLog → Type 0) → List Served → EngineState → Type 0
AllLead began history e = (home : LogDirectories) (log : ModelLog) → began home log → ∥ Leads home log history e ∥₁

-- `value` was read when the engine had served some history. By `is`, the contents of the model log after this history
-- have this value.
pub record WasRead {A : Type 0} (began : LogDirectories → ModelLog → Type 0) (is : Contents → A → Type 0) (value : A)
    : Type 0 where
  pub history : List Served
  pub read : (home : LogDirectories) (log : ModelLog) → began home log
      → ∥ ((last : ModelLog) × IsExplained log history last × is (contents_of last) value) ∥₁

-- the engine served this call with this answer, after some history; the model log explains both
pub record WasServed (began : LogDirectories → ModelLog → Type 0) (call : Call Batch) (answer : Answer) : Type 0 where
  pub history : List Served
  pub explained : (home : LogDirectories) (log : ModelLog) → began home log
      → ∥ ((last : ModelLog) × IsExplained log (history ++ record { call = call; answer = answer } ∷ []) last) ∥₁

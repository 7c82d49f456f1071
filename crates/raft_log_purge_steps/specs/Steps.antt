-- A step of a purge of both queues. What there is before and after the step:
-- - `s`, `t`: the engine's states
-- - `before`, `after`: the memtables
-- - `old`, `new`: the counts
-- - `from`, `to`: the file up to which a compaction of Rewrite is under way, if one is
use Rattle.std.specs.Prelude.{◌≡◌, ◌⊎◌, ◌↔◌, IsTrue, ℕ, Bool, false, List, [], Option, Some, None}
use Rattle.raft_log_model_laws.specs.Groups.{taken}
use Rattle.raft_log_fs.specs.Causes.{IsLater}
use Rattle.raft_log_machine_laws.specs.Calls.Which.{InAppend}
use Rattle.raft_log_memtables.specs.declared.mem_tables.MemTables.{MemTables}
use Rattle.raft_log_dual_pipes.specs.Pipes.{LogPipes, LogRecordValue}
use Rattle.raft_log_dual_pipes.specs.Calls.{SyncsQueue}
use Rattle.raft_log_purge_copy.specs.raft_log_engine_laws.specs.EngineState.{LogDirectories, LogMap, EngineState, has_failed}
use Rattle.raft_log_purge_copy.specs.raft_log_engine_laws.specs.Holding.{Represents}
use Rattle.raft_log_purge_policy.specs.declared.thresholds.Thresholds.{Thresholds}
use Rattle.raft_log_purge_policy.specs.Watermarks.{IsAnyPast, TakesAppend, TakesRewrite}
use Rattle.raft_log_purge.specs.Counting.{CountsIf}
use Rattle.raft_log_purge.specs.ExpiredFiles.{FreesFirst}
use Rattle.raft_log_purge.specs.declared.expired_files.PurgeCounts.{PurgeCounts}
use Rattle.raft_log_purge_steps.specs.declared.step.PurgeStep.{PurgeStep}
use Rattle.raft_log_purge_steps.specs.Compacting.{BeginsCompaction, GoesOnCompacting, StopsCompacting}
use Rattle.raft_log_purge_steps.specs.Part.{PurgesPart}

-- A step that finds no compaction under way.

-- A compaction of Rewrite was due, and has begun. Before that, space was freed if Append was past its threshold too
-- (`FreesFirst`).
pub record BeginsIfDue (hold_back : LogPipes → Option ℕ → Type 0) (thresholds : Thresholds) (to : Option ℕ)
    (before after : MemTables) (old new : PurgeCounts) (step : PurgeStep) (s t : EngineState) : Type 0 where
  pub due : TakesRewrite thresholds old.stats s.pipes
  pub freed : EngineState
  pub frees : FreesFirst hold_back thresholds old.stats before s freed
  pub begins : BeginsCompaction to step freed.pipes t.pipes
  pub same : t ≡ record freed { pipes = t.pipes }
  pub tables : after ≡ before
  pub counts : new ≡ old

-- no compaction of Rewrite was due, and Append is past its threshold: it was purged in part
pub record PurgesIfDue (hold_back : LogPipes → Option ℕ → Type 0) (thresholds : Thresholds) (budget : ℕ)
    (from to : Option ℕ) (before after : MemTables) (old new : PurgeCounts) (step : PurgeStep) (s t : EngineState)
    : Type 0 where
  pub none : TakesRewrite thresholds old.stats s.pipes → ⊥
  pub due : TakesAppend thresholds s.pipes
  pub held : Option ℕ
  pub told : hold_back s.pipes held
  pub purges : PurgesPart held budget before after old.rounds new.rounds step s t
  pub stats : new.stats ≡ old.stats
  pub still : to ≡ from

-- Neither a compaction of Rewrite nor a purge of Append was due, and nothing was done. No group is asked for, and no
-- more is due.
pub record RestsIfDone (thresholds : Thresholds) (from to : Option ℕ) (before after : MemTables)
    (old new : PurgeCounts) (step : PurgeStep) (s t : EngineState) : Type 0 where
  pub none : TakesRewrite thresholds old.stats s.pipes → ⊥
  pub neither : TakesAppend thresholds s.pipes → ⊥
  pub same : t ≡ s
  pub tables : after ≡ before
  pub counts : new ≡ old
  pub still : to ≡ from
  pub asked : step.answered.items ≡ []
  pub done : step.more ≡ false

-- If a queue is past its threshold, `counted` are the counts updated with what is live in Rewrite. Otherwise `counted`
-- are the old counts.
pub record CountsIfDue (thresholds : Thresholds) (before : MemTables) (old counted : PurgeCounts) (v : LogPipes)
    : Type 0 where
  pub past : Bool
  pub tells : IsTrue past ↔ IsAnyPast thresholds v
  pub first : CountsIf past before old counted

-- The counts were updated if a queue was past its threshold. Then one of three was done: a compaction of Rewrite
-- began, Append was purged in part, or nothing.
pub record StepsAnew (hold_back : LogPipes → Option ℕ → Type 0) (thresholds : Thresholds) (budget : ℕ)
    (from to : Option ℕ) (before after : MemTables) (old new : PurgeCounts) (step : PurgeStep) (s t : EngineState)
    : Type 0 where
  pub counted : PurgeCounts
  pub counts : CountsIfDue thresholds before old counted s.pipes
  pub does : BeginsIfDue hold_back thresholds to before after counted new step s t
      ⊎ (PurgesIfDue hold_back thresholds budget from to before after counted new step s t
      ⊎ RestsIfDone thresholds from to before after counted new step s t)

-- The counts after a step failed that found no compaction under way. They were updated if a queue was past its
-- threshold, and no compaction has begun.
pub record StopsAnew (thresholds : Thresholds) (from to : Option ℕ) (before : MemTables) (old new : PurgeCounts)
    (s : EngineState) : Type 0 where
  pub still : to ≡ from
  pub counts : CountsIfDue thresholds before old new s.pipes

-- The whole.

-- what a step does after Append was synced: it continues or ends the compaction that is under way; if none is, it
-- begins one, or purges Append in part, or does nothing
abbrev pub StepsOn : (LogPipes → Option ℕ → Type 0) → Thresholds → ℕ → Option ℕ → Option ℕ → MemTables → MemTables
    → PurgeCounts → PurgeCounts → PurgeStep → EngineState → EngineState → Type 0
StepsOn hold_back thresholds budget (Some file) to before after old new step s t =
    GoesOnCompacting file budget (Some file) to before after old new step s t
StepsOn hold_back thresholds budget None to before after old new step s t =
    StepsAnew hold_back thresholds budget None to before after old new step s t

-- A step of a purge was done: Append was synced, and then what `StepsOn` says. The log has the same contents, and no
-- batch is pending.
pub record PurgesStep (hold_back : LogPipes → Option ℕ → Type 0) (thresholds : Thresholds) (budget : ℕ)
    (from to : Option ℕ) (before after : MemTables) (old new : PurgeCounts) (step : PurgeStep) (s t : EngineState)
    : Type 0 where
  pub synced : LogPipes
  pub syncs : SyncsQueue InAppend s.pipes synced
  pub does : StepsOn hold_back thresholds budget from to before after old new step (record s { pipes = synced }) t
  pub alive : has_failed t ≡ false
  pub later : IsLater s.pipes.disk t.pipes.disk
  pub holds : (home : LogDirectories) (log : LogMap) (pending : List LogRecordValue) → Represents home s log pending
      → Represents home t (taken log pending) []

-- the counts after a step synced Append and then failed
abbrev pub StopsOn : Thresholds → ℕ → Option ℕ → Option ℕ → MemTables → PurgeCounts → PurgeCounts → EngineState
    → EngineState → Type 0
StopsOn thresholds budget (Some file) to before old new s t =
    StopsCompacting file budget (Some file) to before old new s t
StopsOn thresholds budget None to before old new s t = StopsAnew thresholds None to before old new s

-- The counts after a step failed. Either Append wasn't synced, and the counts are unchanged. Or Append was synced, and
-- then the step failed (`StopsOn`). The same compaction is under way as before, if any was.
abbrev pub StopsStep : Thresholds → ℕ → Option ℕ → Option ℕ → MemTables → PurgeCounts → PurgeCounts → EngineState
    → EngineState → Type 0
StopsStep thresholds budget from to before old new s t = ((new ≡ old) × (to ≡ from))
    ⊎ ((synced : LogPipes) × SyncsQueue InAppend s.pipes synced
    × StopsOn thresholds budget from to before old new (record s { pipes = synced }) t)

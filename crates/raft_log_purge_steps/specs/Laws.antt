-- What a purge has done once a step of it returns that no more is due.
use Rattle.std.specs.Prelude.{◌≡◌, ◌⊎◌, ℕ, false, true, Option, None}
use Rattle.raft_log_memtables.specs.declared.mem_tables.MemTables.{MemTables}
use Rattle.raft_log_dual_pipes.specs.Pipes.{LogPipes}
use Rattle.raft_log_purge_copy.specs.raft_log_engine_laws.specs.EngineState.{EngineState}
use Rattle.raft_log_purge_copy.specs.Moving.{IsRewrittenTo}
use Rattle.raft_log_purge_policy.specs.Picking.{count_of, rewrites_at}
use Rattle.raft_log_purge_policy.specs.Watermarks.{TakesAppend, TakesRewrite, watermarks_of}
use Rattle.raft_log_purge_policy.specs.declared.thresholds.Thresholds.{Thresholds}
use Rattle.raft_log_purge.specs.Expired.{PurgesAppend}
use Rattle.raft_log_purge.specs.declared.expired_files.PurgeCounts.{PurgeCounts}
use Rattle.raft_log_purge_steps.specs.declared.step.PurgeStep.{PurgeStep}
use Rattle.raft_log_purge_steps.specs.Steps.{CountsIfDue, PurgesStep}

-- No compaction of Rewrite is due, by the counts `counted` and the files `v` after Append was synced. Either Append
-- isn't past its threshold, or this step purged it as a whole purge does (`PurgesAppend`). If Append is past its
-- threshold, no group that the rules pick has anything in Append up to the watermark.
pub record IsPurged (hold_back : LogPipes → Option ℕ → Type 0) (thresholds : Thresholds) (before after : MemTables)
    (counted new : PurgeCounts) (step : PurgeStep) (v : LogPipes) (s t : EngineState) : Type 0 where
  pub undue : TakesRewrite thresholds counted.stats v → ⊥
  pub purged : (TakesAppend thresholds v → ⊥) ⊎ ((held : Option ℕ) × hold_back v held
      × PurgesAppend held false before after counted.rounds new.rounds step.answered.items (record s { pipes = v }) t)
  pub past : TakesAppend thresholds v → (g : ℕ)
      → rewrites_at (watermarks_of v) (count_of counted.rounds) before g ≡ true
      → IsRewrittenTo (watermarks_of v).rewrite (t.tables g)

-- If a step returns that no more is due, a purge is done: no compaction of Rewrite is under way, before the step or
-- after it, and none is due. Append isn't past its threshold, or it was purged as a whole purge does.
abbrev pub LastStepEndsAPurge : (LogPipes → Option ℕ → Type 0) → Type 0
LastStepEndsAPurge hold_back = (thresholds : Thresholds) (budget : ℕ) (from to : Option ℕ)
    (before after : MemTables) (old new : PurgeCounts) (step : PurgeStep) (s t : EngineState)
    → (done : PurgesStep hold_back thresholds budget from to before after old new step s t) → step.more ≡ false
    → (from ≡ None) × (to ≡ None) × (counted : PurgeCounts) × CountsIfDue thresholds before old counted done.synced
    × IsPurged hold_back thresholds before after counted new step done.synced s t

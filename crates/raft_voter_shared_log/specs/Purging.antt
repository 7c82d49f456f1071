-- What a purge of a shared store does to its log.
use Rattle.std.specs.Prelude.{ℕ, List, Option}
use Rattle.raft_log_record_base.specs.declared.errors.Error.{Error}
use Rattle.raft_log_engine.specs.raft_log_memtables.specs.declared.mem_tables.MemTables.{MemTables}
use Rattle.raft_log_purge.specs.Append.{RewritesAppend}
use Rattle.raft_log_purge.specs.Counted.{PurgesAndCounts}
use Rattle.raft_log_purge.specs.ExpiredFiles.{SyncsAndRewrites}
use Rattle.raft_log_purge_steps.specs.Steps.{PurgesStep}
use Rattle.raft_log_purge_steps.specs.declared.step.PurgeStep.{PurgeStep}
use Rattle.raft_voter_durability_laws.specs.raft_log_engine_laws.specs.raft_log_dual_pipes.specs.Pipes.{LogPipes}
use Rattle.raft_voter_durability_laws.specs.raft_log_engine_laws.specs.EngineState.{EngineState}
use Rattle.raft_log_engine.specs.raft_log_engine_core.specs.Purging.{StopsPurgingExpired, StopsRewritingAppend}
use Rattle.raft_log_engine.specs.raft_log_engine_core.specs.declared.engine.LogEngine.{LogEngine}
use Rattle.raft_voter_shared_log.specs.declared.forced.ForcedPurge.{ForcedPurge}
use Rattle.raft_voter_shared_log.specs.declared.forced.ForcedPurge.TheVariants.{RewriteAppend, RewriteRewrite}

-- A purge of the engine `old`, in the state `s`, succeeded and returned these groups to compact. It left `new`, in the
-- state `t`. `held` says from which file on the engine's listeners pin Append.
abbrev pub PurgesStore : {P : Type 0} → (LogPipes → Option ℕ → Type 0) → List ℕ → LogEngine P → LogEngine P
    → EngineState → EngineState → Type 0
PurgesStore held groups old new s t =
    PurgesAndCounts held old.thresholds old.tables new.tables old.counts new.counts groups s t

-- A step with this budget of a purge of the engine `old`, in the state `s`, succeeded and returned `step`. It left
-- `new`, in the state `t`. `held` says from which file on the engine's listeners pin Append.
abbrev pub StepsStore : {P : Type 0} → (LogPipes → Option ℕ → Type 0) → ℕ → PurgeStep → LogEngine P → LogEngine P
    → EngineState → EngineState → Type 0
StepsStore held budget step old new s t = PurgesStep held old.thresholds budget old.compacting new.compacting
    old.tables new.tables old.counts new.counts step s t

-- A forced purge of an engine in the state `s` succeeded. It left the state `t`, with these tables.
abbrev pub ForcesStore : ForcedPurge → MemTables → EngineState → EngineState → Type 0
ForcesStore (RewriteAppend watermark exit_after_step) tables s t = RewritesAppend watermark exit_after_step tables s t
ForcesStore RewriteRewrite tables s t = SyncsAndRewrites tables s t

-- a forced purge failed with this error, for one of the reasons that it may have
abbrev pub StopsForced : ForcedPurge → Error → EngineState → EngineState → Type 0
StopsForced (RewriteAppend watermark exit_after_step) error s t = StopsRewritingAppend s t error
StopsForced RewriteRewrite error s t = StopsPurgingExpired s t error

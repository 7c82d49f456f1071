-- Purging an engine's log (garbage collection).
use Rattle.std.specs.Prelude.{◌≡◌, ◌⊎◌, ℕ, Option}
use Rattle.raft_log_record_base.specs.declared.errors.Error.{Error}
use Rattle.raft_log_record_base.specs.declared.pipe_log.LogQueue.TheVariants.{Rewrite}
use Rattle.raft_log_fs.specs.Disk.{Disk}
use Rattle.raft_log_open.specs.Reading.{BringsInRewrite}
use Rattle.raft_log_memtables.specs.declared.mem_tables.MemTables.{MemTables}
use Rattle.raft_log_dual_pipes.specs.Pipes.{LogPipes}
use Rattle.raft_log_file_settings.specs.Sanitized.{sanitized}
use Rattle.raft_log_file_settings.specs.Settings.{settings_of}
use Rattle.raft_log_file_settings.specs.declared.config.Config.{Config}
use Rattle.raft_log_purge_policy.specs.Thresholds.{thresholds_of}
use Rattle.raft_log_purge_policy.specs.declared.thresholds.Thresholds.{Thresholds}
use Rattle.raft_log_memtable.specs.Stats.{added, no_entries}
use Rattle.raft_log_purge_policy.specs.Picking.{count_of}
use Rattle.raft_log_purge_policy.specs.declared.rounds.Rounds.{Rounds}
use Rattle.raft_log_purge.specs.raft_log_purge_copy.specs.Stale.{FailsToPurgeAll}
use Rattle.raft_log_purge.specs.Append.{FailsToRewriteAppend}
use Rattle.raft_log_purge.specs.Counted.{CountsAndKeeps, CountsIfPast}
use Rattle.raft_log_purge.specs.Counting.{CountsStanding}
use Rattle.raft_log_purge.specs.ExpiredFiles.{FailsToPurgeExpired}
use Rattle.raft_log_purge.specs.declared.expired_files.PurgeCounts.{PurgeCounts}
use Rattle.raft_log_purge.specs.raft_log_engine_laws.specs.Fetching.{HadFailed}
use Rattle.raft_log_purge.specs.raft_log_engine_laws.specs.EngineState.{EngineState}
use Rattle.raft_log_engine_core.specs.Reads.{Lives}

-- `thresholds` are those of the settings `config`, with missing settings filled in (`sanitized`). `rounds` counts, for
-- each group, the purges in a row that asked the caller to compact it; each count is 0.
pub record IsPurgedBy (config : Config) (thresholds : Thresholds) (rounds : Rounds) : Type 0 where
  pub sizes : thresholds ≡ thresholds_of (sanitized (settings_of config))
  pub unasked : (g : ℕ) → count_of rounds g ≡ 0

-- A purge of all stale files failed with `error`: the engine had failed before; or it hadn't, and a step of the purge
-- failed.
abbrev pub StopsPurging : EngineState → EngineState → Error → Type 0
StopsPurging s t error = HadFailed s t error ⊎ (Lives s × FailsToPurgeAll error s t)

-- A rewrite of Append (copying what groups have there to Rewrite) failed with `error`: the engine had failed before; or
-- it hadn't, and a step of the rewrite failed.
abbrev pub StopsRewritingAppend : EngineState → EngineState → Error → Type 0
StopsRewritingAppend s t error = HadFailed s t error ⊎ (Lives s × FailsToRewriteAppend error s t)

-- A purge of expired files, or a compaction of Rewrite, failed with `error`: the engine had failed before; or it
-- hadn't, and a step failed.
abbrev pub StopsPurgingExpired : EngineState → EngineState → Error → Type 0
StopsPurgingExpired s t error = HadFailed s t error ⊎ (Lives s × FailsToPurgeExpired error s t)

-- The counts after an open, for later purges. The open read `written` entries and values from Rewrite's files, live or
-- not. They count as written to Rewrite, and none of them as garbage. No entry counts as live in Append.
pub record CountsBrought (config : Config) (d : Disk) (counts : PurgeCounts) : Type 0 where
  pub written : ℕ
  pub brings : BringsInRewrite config d written
  pub stats : counts.stats ≡ added Rewrite written no_entries

-- A purge of expired files failed. The counts are unchanged, or as `CountsIfPast` says: they are updated first if a
-- queue is past its threshold, and then depend on the failed step. `m` are the memtables before. `hold_back` says which
-- files are pinned.
abbrev pub StopsCountingIfPast : (LogPipes → Option ℕ → Type 0) → Thresholds → MemTables → PurgeCounts → PurgeCounts
    → EngineState → EngineState → Type 0
StopsCountingIfPast hold_back thresholds m old new s t =
    (new ≡ old) ⊎ CountsIfPast hold_back thresholds m old new s t

-- A compaction of Rewrite failed. The counts are unchanged; or they were updated before the compaction, and the step
-- that failed decides which are kept. `m` are the memtables before.
abbrev pub StopsCounting : MemTables → PurgeCounts → PurgeCounts → EngineState → EngineState → Type 0
StopsCounting m old new s t = (new ≡ old) ⊎ CountsAndKeeps m old new s t

-- a rewrite of Append failed: the counts are unchanged, or updated with what is live in Rewrite by the memtables `m`
abbrev pub MayCountStanding : MemTables → PurgeCounts → PurgeCounts → Type 0
MayCountStanding m old new = (new ≡ old) ⊎ CountsStanding m old new

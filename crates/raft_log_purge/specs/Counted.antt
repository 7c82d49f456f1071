-- Purges that update the counts of Rewrite with what is live there. `before` and `after` are the tables before and
-- after the purge, `old` and `new` the counts.
use Rattle.std.specs.Prelude.{◌≡◌, ◌↔◌, IsTrue, ℕ, Bool, List, Option}
use Rattle.raft_log_memtables.specs.declared.mem_tables.MemTables.{MemTables}
use Rattle.raft_log_dual_pipes.specs.Pipes.{LogPipes}
use Rattle.raft_log_purge.specs.RewriteQueue.{reset_counts}
use Rattle.raft_log_purge_copy.specs.raft_log_engine_laws.specs.EngineState.{EngineState}
use Rattle.raft_log_purge_policy.specs.declared.thresholds.Thresholds.{Thresholds}
use Rattle.raft_log_purge_policy.specs.Watermarks.{IsAnyPast}
use Rattle.raft_log_purge.specs.Counting.{CountsIf, CountsStanding}
use Rattle.raft_log_purge.specs.ExpiredFiles.{KeepsCounts, PurgesExpired, StopsAtRewrite}
use Rattle.raft_log_purge.specs.declared.expired_files.PurgeCounts.{PurgeCounts}

-- Expired files were purged, and `groups` are returned. If a queue was past its threshold (`past`), what is live in
-- Rewrite was counted before the purge and after it; else it wasn't. The purge begins with the counts `counted`.
pub record PurgesAndCounts (hold_back : LogPipes → Option ℕ → Type 0) (thresholds : Thresholds)
    (before after : MemTables) (old new : PurgeCounts) (groups : List ℕ) (s t : EngineState) : Type 0 where
  pub past : Bool
  pub tells : IsTrue past ↔ IsAnyPast thresholds s.pipes
  pub counted : PurgeCounts
  pub first : CountsIf past before old counted
  pub purged : PurgeCounts
  pub purges : PurgesExpired hold_back thresholds before after counted purged groups s t
  pub second : CountsIf past after purged new

-- The counts after a purge of expired files failed. If a queue was past its threshold, they were updated before the
-- purge. Which counts are left after that depends on the step that failed (`KeepsCounts`).
pub record CountsIfPast (hold_back : LogPipes → Option ℕ → Type 0) (thresholds : Thresholds) (before : MemTables)
    (old new : PurgeCounts) (s t : EngineState) : Type 0 where
  pub past : Bool
  pub tells : IsTrue past ↔ IsAnyPast thresholds s.pipes
  pub counted : PurgeCounts
  pub first : CountsIf past before old counted
  pub kept : KeepsCounts hold_back thresholds before counted new s t

-- Rewrite was compacted. Before that, the counts were updated with what was live there; after it, they were reset
-- (`reset_counts`).
pub record CountsAndResets (before : MemTables) (old new : PurgeCounts) : Type 0 where
  pub counted : PurgeCounts
  pub first : CountsStanding before old counted
  pub stats : new.stats ≡ reset_counts counted.stats
  pub rounds : new.rounds ≡ old.rounds

-- The counts that a failed compaction of Rewrite leaves. They were updated before the compaction. What they are after
-- that depends on the step that failed (`StopsAtRewrite`).
pub record CountsAndKeeps (before : MemTables) (old new : PurgeCounts) (s t : EngineState) : Type 0 where
  pub counted : PurgeCounts
  pub first : CountsStanding before old counted
  pub stats : StopsAtRewrite before counted.stats new.stats s t
  pub rounds : new.rounds ≡ old.rounds

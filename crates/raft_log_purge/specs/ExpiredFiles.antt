-- A purge of both queues. Each is purged if its files are together larger than its threshold; Rewrite only if enough of
-- it is garbage too. `s` and `t` are the engine's states before and after, `hold_back` says which files are pinned.
use Rattle.std.specs.Prelude.{◌≡◌, ◌⊎◌, ℕ, Bool, true, false, List, [], Option}
use Rattle.raft_log_model_laws.specs.Groups.{taken}
use Rattle.raft_log_fs.specs.Causes.{IsLater}
use Rattle.raft_log_record_base.specs.declared.errors.Error.{Error}
use Rattle.raft_log_record_items.specs.declared.item.LogItem.{LogItem}
use Rattle.raft_log_machine_laws.specs.Calls.Which.{InAppend}
use Rattle.raft_log_memtable.specs.declared.global_stats.GlobalStats.{GlobalStats}
use Rattle.raft_log_memtables.specs.declared.mem_tables.MemTables.{MemTables}
use Rattle.raft_log_memtables.specs.Owing.{AreOwed}
use Rattle.raft_log_dual_pipes.specs.Pipes.{LogPipes, LogRecordValue}
use Rattle.raft_log_dual_pipes.specs.Calls.{SyncsQueue}
use Rattle.raft_log_purge_copy.specs.raft_log_block_cache.specs.declared.block_cache.BlockCache.{BlockCache}
use Rattle.raft_log_purge_copy.specs.raft_log_engine_laws.specs.EngineState.{LogDirectories, LogMap, EngineState, has_failed, shows}
use Rattle.raft_log_purge_copy.specs.raft_log_engine_laws.specs.Holding.{Represents}
use Rattle.raft_log_purge_copy.specs.raft_log_engine_laws.specs.Settled.{HoldsSettled}
use Rattle.raft_log_purge_policy.specs.declared.thresholds.Thresholds.{Thresholds}
use Rattle.raft_log_purge_policy.specs.Watermarks.{TakesAppend, TakesRewrite}
use Rattle.raft_log_purge.specs.RewriteQueue.{RewritesRewrite, reset_counts}
use Rattle.raft_log_purge.specs.declared.expired_files.PurgeCounts.{PurgeCounts}
use Rattle.raft_log_purge.specs.Append.{FailsToRewriteAppend}
use Rattle.raft_log_purge.specs.Expired.{DeletesFirst, PurgesIfPast}
use Rattle.raft_log_purge.specs.Garbage.{CountsRefused}

-- Before the compaction of Rewrite.

-- Append is past its threshold, and a compaction of Rewrite is due
abbrev pub TakesBoth : Thresholds → GlobalStats → LogPipes → Type 0
TakesBoth thresholds stats v = TakesAppend thresholds v × TakesRewrite thresholds stats v

-- If no tombstone was owed, files left Append's live range before anything was written (`DeletesFirst`). Append keeps
-- all files from the first pinned one (`held`) on.
pub record FreesSpace (hold_back : LogPipes → Option ℕ → Type 0) (m : MemTables) (s t : EngineState) : Type 0 where
  pub held : Option ℕ
  pub told : hold_back s.pipes held
  pub marks : List LogItem
  pub owed : AreOwed m marks
  pub deletes : DeletesFirst held m marks s t

-- if both queues are to be purged, space was freed (`FreesSpace`); else nothing was done
abbrev pub FreesFirst : (LogPipes → Option ℕ → Type 0) → Thresholds → GlobalStats → MemTables → EngineState
    → EngineState → Type 0
FreesFirst hold_back thresholds stats m s t =
    (TakesBoth thresholds stats s.pipes × FreesSpace hold_back m s t)
    ⊎ ((TakesBoth thresholds stats s.pipes → ⊥) × (t ≡ s))

-- Append was synced. Then space was freed if both queues are to be purged (`FreesFirst`).
pub record SyncsAndFrees (hold_back : LogPipes → Option ℕ → Type 0) (thresholds : Thresholds) (stats : GlobalStats)
    (m : MemTables) (s t : EngineState) : Type 0 where
  pub synced : LogPipes
  pub syncs : SyncsQueue InAppend s.pipes synced
  pub frees : FreesFirst hold_back thresholds stats m (record s { pipes = synced }) t

-- The whole.

-- Rewrite was compacted exactly if it was past its threshold and enough of it was garbage; the flag says whether it was
-- compacted. The counts were `old` and are `new` now. The tables were `before` and are `after` now.
abbrev pub RewritesIfPast : Thresholds → GlobalStats → GlobalStats → MemTables → MemTables → Bool → EngineState
    → EngineState → Type 0
RewritesIfPast thresholds old new before after true s t =
    TakesRewrite thresholds old s.pipes × RewritesRewrite after s t × (new ≡ reset_counts old)
RewritesIfPast thresholds old new before after false s t =
    (TakesRewrite thresholds old s.pipes → ⊥) × (after ≡ before) × (t ≡ s) × (new ≡ old)

-- Append was synced, and then Rewrite was compacted, whatever its size. The log has the same contents, and nothing is
-- pending in either queue.
pub record SyncsAndRewrites (m : MemTables) (s t : EngineState) : Type 0 where
  pub synced : LogPipes
  pub syncs : SyncsQueue InAppend s.pipes synced
  pub rewrites : RewritesRewrite m (record s { pipes = synced }) t
  pub alive : has_failed t ≡ false
  pub later : IsLater s.pipes.disk t.pipes.disk
  pub settles : (home : LogDirectories) (log : LogMap) (pending : List LogRecordValue) → Represents home s log pending
      → HoldsSettled home t (taken log pending)

-- Expired files were purged, and `groups` are returned.
-- - `begins`: Append was synced, and space was freed if both queues were to be purged.
-- - `rewrites`: Rewrite was compacted if that was due then.
-- - `purges`: Append was purged if that was due then. It keeps all files from the first pinned one (`held`) on.
-- The log has the same contents, and no batch is pending.
pub record PurgesExpired (hold_back : LogPipes → Option ℕ → Type 0) (thresholds : Thresholds)
    (before after : MemTables) (old new : PurgeCounts) (groups : List ℕ) (s t : EngineState) : Type 0 where
  pub freed : EngineState
  pub begins : SyncsAndFrees hold_back thresholds old.stats before s freed
  pub restated : Bool
  pub between : MemTables
  pub pipes : LogPipes
  pub cache : BlockCache
  pub rewrites : RewritesIfPast thresholds old.stats new.stats before between restated
      freed (shows pipes between cache)
  pub held : Option ℕ
  pub told : hold_back pipes held
  pub purges : PurgesIfPast thresholds held restated between after old.rounds new.rounds groups
      (shows pipes between cache) t
  pub alive : has_failed t ≡ false
  pub later : IsLater s.pipes.disk t.pipes.disk
  pub holds : (home : LogDirectories) (log : LogMap) (pending : List LogRecordValue) → Represents home s log pending
      → Represents home t (taken log pending) []

-- A purge of expired files, or a compaction of Rewrite, failed, and `HasPurgeReason` gives the reason. Afterwards one
-- of two is true:
-- - The log has the same contents, and no batch is pending any more.
-- - The engine has failed, and its files can be opened with these contents. The batches that were pending are durable
--   or still pending.
abbrev pub FailsToPurgeExpired : Error → EngineState → EngineState → Type 0
FailsToPurgeExpired error s t = FailsToRewriteAppend error s t

-- The counts after a failure.

-- The counts of Rewrite, `old` before and `new` after `SyncsAndRewrites` failed. `before` are the tables before it. One
-- of two is true:
-- - Tables and counts are unchanged, as after a failed sync of Append.
-- - Append was synced, and the compaction of Rewrite failed (`CountsRefused`).
abbrev pub StopsAtRewrite : MemTables → GlobalStats → GlobalStats → EngineState → EngineState → Type 0
StopsAtRewrite before old new s t = ((t.tables ≡ s.tables) × (new ≡ old))
    ⊎ ((synced : LogPipes) × SyncsQueue InAppend s.pipes synced
    × CountsRefused before old new (record s { pipes = synced }) t)

-- The compaction of Rewrite failed in a purge, after Append was synced and space was freed if both queues were to be
-- purged. The counts of Rewrite are those after a failed compaction (`CountsRefused`).
pub record StopsAtCompaction (hold_back : LogPipes → Option ℕ → Type 0) (thresholds : Thresholds)
    (before : MemTables) (old new : GlobalStats) (s t : EngineState) : Type 0 where
  pub freed : EngineState
  pub begins : SyncsAndFrees hold_back thresholds old before s freed
  pub counts : CountsRefused before old new freed t

-- The purge of Append failed, after Rewrite was compacted if that was due. The counts of Rewrite are those after the
-- compaction (`RewritesIfPast`).
pub record StopsAtAppend (hold_back : LogPipes → Option ℕ → Type 0) (thresholds : Thresholds) (before : MemTables)
    (old new : GlobalStats) (s : EngineState) : Type 0 where
  pub freed : EngineState
  pub begins : SyncsAndFrees hold_back thresholds old before s freed
  pub restated : Bool
  pub between : MemTables
  pub pipes : LogPipes
  pub cache : BlockCache
  pub rewrites : RewritesIfPast thresholds old new before between restated freed (shows pipes between cache)

-- The counts after a purge failed. The counts of purges in a row that asked the caller to compact a group are
-- unchanged. The counts of Rewrite depend on the step that failed:
-- - Append's sync, or freeing space: tables and counts are unchanged.
-- - The compaction of Rewrite: `StopsAtCompaction`.
-- - The purge of Append: `StopsAtAppend`.
pub record KeepsCounts (hold_back : LogPipes → Option ℕ → Type 0) (thresholds : Thresholds) (before : MemTables)
    (old new : PurgeCounts) (s t : EngineState) : Type 0 where
  pub rounds : new.rounds ≡ old.rounds
  pub stats : ((t.tables ≡ s.tables) × (new.stats ≡ old.stats))
      ⊎ (StopsAtCompaction hold_back thresholds before old.stats new.stats s t
      ⊎ StopsAtAppend hold_back thresholds before old.stats new.stats s)

-- A sync of Append: the engine's state `s` before it and `t` after it, and the contents of its log, whether the sync
-- succeeds or fails.
use Rattle.std.specs.Prelude.{◌≡◌, ◌⊎◌, ℕ, Bool, false, true, List, []}
use Rattle.raft_log_model_laws.specs.Groups.{taken}
use Rattle.raft_log_fs.specs.Causes.{Fails, IsLater}
use Rattle.raft_log_record_base.specs.declared.errors.Error.{Error}
use Rattle.raft_log_record_base.specs.declared.errors.Error.TheVariants as errors
use Rattle.raft_log_block_cache.specs.raft_log_dual_pipes.specs.Pipes.{LogRecordValue}
use Rattle.raft_log_engine_laws.specs.EngineState.{LogDirectories, LogMap, EngineState, has_failed}
use Rattle.raft_log_engine_laws.specs.Holding.{Represents, IsRecoverableAs, RunsAs}

-- the engine has not failed in `t`, and its tables are those of `s`
pub record RunsOnSame (s t : EngineState) : Type 0 where
  pub alive : has_failed t ≡ false
  pub tables : t.tables ≡ s.tables
  pub counts : t.counts ≡ s.counts

-- Append was synced: all pending batches are durable. The tables and the cached block are unchanged.
pub record SyncsAppend (s t : EngineState) : Type 0 where
  pub lived : has_failed s ≡ false
  pub same : RunsOnSame s t
  pub cache : t.cache ≡ s.cache
  pub later : IsLater s.pipes.disk t.pipes.disk
  pub holds : (home : LogDirectories) (m : LogMap) (pending : List LogRecordValue) → Represents home s m pending
      → Represents home t (taken m pending) []
  pub log : (home : LogDirectories) (m : LogMap) (pending : List LogRecordValue) → RunsAs home s.pipes m pending
      → RunsAs home t.pipes (taken m pending) []

-- A file system call failed in a sync, so the engine has failed. Its log's files can be opened, with the same contents
-- and batches. A prefix of the batches may be durable.
pub record FailsToSyncAppend (s t : EngineState) : Type 0 where
  pub lived : has_failed s ≡ false
  pub failed : has_failed t ≡ true
  pub later : IsLater s.pipes.disk t.pipes.disk
  pub leaves : (home : LogDirectories) (m : LogMap) (pending : List LogRecordValue) → RunsAs home s.pipes m pending
      → Fails s.pipes.disk t.pipes.disk × IsRecoverableAs home t.pipes.disk m pending

-- A sync failed with `Failed`. Either the engine had failed before, and nothing was done; or it failed in this sync.
abbrev pub NotSynced : Error → EngineState → EngineState → Type 0
NotSynced error s t = (error ≡ errors.Failed)
    × (((has_failed s ≡ true) × (t ≡ s)) ⊎ FailsToSyncAppend s t)

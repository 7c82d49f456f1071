-- A compaction of Rewrite, which names of definitions call a rewrite. What is live in Rewrite is written to new
-- records, and the old files leave Rewrite's live range. `s` and `t` are the engine's states before and after, `m` the
-- memtables after.
use Rattle.std.specs.Prelude.{◌≡◌, ◌↔◌, ◌+◌, ◌-◌, ◌<◌, IsTrue, ℕ, max, Bool, true, false, []}
use Rattle.raft_log_fs.specs.Causes.{IsLater}
use Rattle.raft_log_record_base.specs.declared.errors.Error.{Error}
use Rattle.raft_log_record_base.specs.declared.errors.Error.TheVariants as errors
use Rattle.raft_log_record_base.specs.declared.pipe_log.LogQueue.TheVariants.{Rewrite}
use Rattle.raft_log_machine_laws.specs.Calls.Which.{InRewrite}
use Rattle.raft_log_memtable.specs.declared.global_stats.GlobalStats.{GlobalStats}
use Rattle.raft_log_memtables.specs.declared.mem_tables.MemTables.{MemTables}
use Rattle.raft_log_dual_pipes.specs.State.{pipe_at}
use Rattle.raft_log_dual_pipes.specs.Pipes.{LogPipes, files_of}
use Rattle.raft_log_dual_pipes.specs.Calls.{RotatesQueue, SyncsQueue}
use Rattle.raft_log_purge_copy.specs.raft_log_engine_laws.specs.EngineState.{LogDirectories, LogMap, EngineState, has_failed}
use Rattle.raft_log_purge_copy.specs.raft_log_engine_laws.specs.Holding.{Represents}
use Rattle.raft_log_purge_copy.specs.raft_log_engine_laws.specs.Settled.{HoldsSettled}
use Rattle.raft_log_purge_copy.specs.Files.{LosesFiles}
use Rattle.raft_log_purge_copy.specs.Reasons.{GivesReason}
use Rattle.raft_log_purge_copy.specs.Stale.{written_file}
use Rattle.raft_log_purge_copy.specs.Syncing.{CountsEach}
use Rattle.raft_log_purge_copy.specs.Restated.{IsRestatedFrom, Restates, StaysOrIsLeft, last_file}

-- a test that every group passes
abbrev pub every : ℕ → Bool
every g = true

-- All groups were restated: what they have live in Rewrite is in new records there. Rewrite was synced at the end. It
-- was also synced before a record whenever 512 KiB or more of the new records had been written since the last sync. If
-- no batch was pending, the log has the same contents, and nothing is pending in either queue.
pub record RestatesAll (s t : EngineState) : Type 0 where
  pub restated : EngineState
  pub restates : Restates every s restated
  pub handed : CountsEach s.pipes restated.pipes
  pub syncs : SyncsQueue InRewrite restated.pipes t.pipes
  pub same : t ≡ record restated { pipes = t.pipes }
  pub alive : has_failed t ≡ false
  pub later : IsLater s.pipes.disk t.pipes.disk
  pub settles : (home : LogDirectories) (m : LogMap) → Represents home s m [] → HoldsSettled home t m

-- the first file of Rewrite's live range
abbrev pub first_file : EngineState → ℕ
first_file s = (pipe_at InRewrite (files_of s.pipes)).first_seq

-- Rewrite was compacted: it rotated, all groups were restated, and Rewrite was synced. Then files left Rewrite's live
-- range. If no batch was pending:
-- - `settles`: the log has the same contents, and nothing is pending in either queue.
-- - `begins`: the live range begins at the lowest file in use (`loses.least`), or where it began if that is later.
-- - `past`: the live range begins after the file that was active at the start.
-- - `from`: all that a group has in Rewrite is in files after the one that was active at the start.
pub record RewritesRewrite (m : MemTables) (s t : EngineState) : Type 0 where
  pub turned : LogPipes
  pub turns : RotatesQueue InRewrite s.pipes turned
  pub restated : EngineState
  pub restates : RestatesAll (record s { pipes = turned }) restated
  pub count : ℕ
  pub loses : LosesFiles Rewrite (written_file Rewrite restated.pipes) m count restated t
  pub tables : t.tables ≡ restated.tables
  pub counts : t.counts ≡ s.counts
  pub alive : has_failed t ≡ false
  pub later : IsLater s.pipes.disk t.pipes.disk
  pub begins : (home : LogDirectories) (log : LogMap) → Represents home s log []
      → first_file t ≡ max (first_file restated) loses.least
  pub past : (home : LogDirectories) (log : LogMap) → Represents home s log [] → last_file s < first_file t
  pub from : (home : LogDirectories) (log : LogMap) → Represents home s log [] → (g : ℕ)
      → IsRestatedFrom (last_file s + 1) (s.tables g) (t.tables g)
  pub settles : (home : LogDirectories) (log : LogMap) → Represents home s log [] → HoldsSettled home t log

-- A compaction of Rewrite failed with `error`. If no batch was pending:
-- - `GivesReason` gives the reason.
-- - The log has the same contents, or the engine has failed and its files can be opened with them.
pub record FailsToRewriteRewrite (error : Error) (s t : EngineState) : Type 0 where
  pub counts : t.counts ≡ s.counts
  pub tells : has_failed s ≡ false → IsTrue (has_failed t) ↔ (error ≡ errors.Failed)
  pub later : IsLater s.pipes.disk t.pipes.disk
  pub remains : StaysOrIsLeft error s t
  pub cause : GivesReason error s t

-- the counts after Rewrite was compacted: what was counted as garbage no longer counts as written, nor as garbage
abbrev pub reset_counts : GlobalStats → GlobalStats
reset_counts s = record s {
  rewrite_entries = s.rewrite_entries - s.deleted_rewrite_entries;
  deleted_rewrite_entries = 0;
}

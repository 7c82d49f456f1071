-- A compaction of Rewrite in steps. It restates all groups that need a file of Rewrite up to `file`, which was the
-- active one before the compaction began. What there is before and after a step:
-- - `s`, `t`: the engine's states
-- - `before`, `after`: the memtables
-- - `old`, `new`: the counts
-- - `from`, `to`: the file of the compaction that is under way, if one is
use Rattle.std.specs.Prelude.{◌≡◌, ◌⊎◌, ◌<◌, ℕ, nat_le, Bool, true, false, List, [], Option, Some, None, take}
use Rattle.raft_log_fs.specs.Causes.{IsLater}
use Rattle.raft_log_record_base.specs.declared.pipe_log.LogQueue.TheVariants.{Rewrite}
use Rattle.raft_log_machine_laws.specs.Calls.Which.{InRewrite}
use Rattle.raft_log_memtable.specs.declared.global_stats.GlobalStats.{GlobalStats}
use Rattle.raft_log_memtables.specs.declared.mem_tables.MemTables.{MemTables}
use Rattle.raft_log_memtables.specs.Tables.{raw_of, shown_of}
use Rattle.raft_log_memtables.specs.Walking.{ListsGroups, least_in}
use Rattle.raft_log_dual_pipes.specs.LastFile.{last_of}
use Rattle.raft_log_dual_pipes.specs.Pipes.{LogPipes, is_failed}
use Rattle.raft_log_dual_pipes.specs.Calls.{RotatesQueue, SyncsQueue}
use Rattle.raft_log_purge_copy.specs.raft_log_engine_laws.specs.EngineState.{LogDirectories, LogMap, EngineState, has_failed}
use Rattle.raft_log_purge_copy.specs.raft_log_engine_laws.specs.Holding.{Represents}
use Rattle.raft_log_purge_copy.specs.raft_log_engine_laws.specs.Settled.{HoldsSettled}
use Rattle.raft_log_purge_copy.specs.Files.{LosesFiles}
use Rattle.raft_log_purge_copy.specs.Restated.{RestatesEach, last_file}
use Rattle.raft_log_purge_copy.specs.Stale.{written_file}
use Rattle.raft_log_purge_copy.specs.Syncing.{CountsEach}
use Rattle.raft_log_purge_policy.specs.Picking.{answers_at}
use Rattle.raft_log_purge.specs.Garbage.{CountsGarbage}
use Rattle.raft_log_purge.specs.RewriteQueue.{first_file, reset_counts}
use Rattle.raft_log_purge.specs.declared.expired_files.PurgeCounts.{PurgeCounts}
use Rattle.raft_log_purge_steps.specs.declared.step.PurgeStep.{PurgeStep}
use Rattle.raft_log_purge_steps.specs.Weights.{IsAffordable}

-- The groups.

-- whether there is a least file, and it is at most `file`
abbrev pub is_at_most : ℕ → Option ℕ → Bool
is_at_most file None = false
is_at_most file (Some least) = nat_le least file

-- whether group `g` needs a file of Rewrite up to `file`, by the tables `m`
abbrev pub needs_up_to : ℕ → MemTables → ℕ → Bool
needs_up_to file m g = is_at_most file (least_in Rewrite (raw_of m g))

-- The first step.

-- Rewrite rotated: a compaction has begun, up to the file that was active before. No group is asked for, and more is
-- due.
pub record BeginsCompaction (to : Option ℕ) (step : PurgeStep) (v w : LogPipes) : Type 0 where
  pub turns : RotatesQueue InRewrite v w
  pub begun : to ≡ Some (last_of InRewrite v)
  pub none : step.answered.items ≡ []
  pub more : step.more ≡ true
  pub alive : is_failed w ≡ false
  pub later : IsLater v.disk w.disk

-- Further steps.

-- Rewrite was synced. Then files left its live range: those below the lowest one that any group needs by the tables
-- `m`. If no batch was pending, the log has the same contents, and nothing is pending in either queue.
pub record SyncsAndDeletes (m : MemTables) (s t : EngineState) : Type 0 where
  pub synced : LogPipes
  pub syncs : SyncsQueue InRewrite s.pipes synced
  pub count : ℕ
  pub loses : LosesFiles Rewrite (written_file Rewrite synced) m count (record s { pipes = synced }) t
  pub tables : t.tables ≡ s.tables
  pub counts : t.counts ≡ s.counts
  pub alive : has_failed t ≡ false
  pub later : IsLater s.pipes.disk t.pipes.disk
  pub least : (home : LogDirectories) (log : LogMap) → Represents home s log [] → (file : ℕ) → file < last_file s
      → ((g : ℕ) → needs_up_to file m g ≡ false) → file < first_file t
  pub settles : (home : LogDirectories) (log : LogMap) → Represents home s log [] → HoldsSettled home t log

-- Each of these groups was restated: what it had in Rewrite is in new records there. Then Rewrite was synced, and files
-- left its live range. If no batch was pending, the log has the same contents, and nothing is pending in either queue.
pub record RestatesSome (groups : List ℕ) (m : MemTables) (s t : EngineState) : Type 0 where
  pub restated : EngineState
  pub restates : RestatesEach groups s restated
  pub handed : CountsEach s.pipes restated.pipes
  pub deletes : SyncsAndDeletes m restated t
  pub alive : has_failed t ≡ false
  pub later : IsLater s.pipes.disk t.pipes.disk
  pub settles : (home : LogDirectories) (log : LogMap) → Represents home s log [] → HoldsSettled home t log

-- `groups` are all groups that need a file of Rewrite up to `file`. The budget pays for the first `count` of them.
pub record TakesGroups (file budget : ℕ) (m : MemTables) (groups : List ℕ) (count : ℕ) : Type 0 where
  pub listed : ListsGroups (needs_up_to file m) groups
  pub fits : IsAffordable None budget (shown_of m) groups count

-- Some groups that need a file of Rewrite up to `file` were restated, and their old copies count as garbage. The
-- compaction is still under way. No group is asked for.
pub record ContinuesCompaction (file budget : ℕ) (from to : Option ℕ) (before after : MemTables)
    (old new : PurgeCounts) (step : PurgeStep) (s t : EngineState) : Type 0 where
  pub groups : List ℕ
  pub some : groups ≡ [] → ⊥
  pub count : ℕ
  pub takes : TakesGroups file budget before groups count
  pub restates : RestatesSome (take count groups) after s t
  pub stats : CountsGarbage file (shown_of after) (take count groups) old.stats new.stats
  pub rounds : new.rounds ≡ old.rounds
  pub still : to ≡ from
  pub none : step.answered.items ≡ []
  pub more : step.more ≡ true

-- The compaction has ended: Rewrite was synced, files left its live range, and the garbage was subtracted from the
-- counts. The groups that have more than 32 entries in Rewrite are returned. More is due, as Append may be purged next.
pub record EndsCompaction (to : Option ℕ) (m : MemTables) (old new : GlobalStats) (step : PurgeStep)
    (s t : EngineState) : Type 0 where
  pub deletes : SyncsAndDeletes m s t
  pub stats : new ≡ reset_counts old
  pub ended : to ≡ None
  pub answered : ListsGroups (answers_at None true m) step.answered.items
  pub more : step.more ≡ true

-- No group needs a file of Rewrite up to `file`, so the compaction has ended. If `file` was before Rewrite's active
-- file, and no batch was pending, Rewrite's live range begins after `file`.
pub record LeavesNone (file : ℕ) (to : Option ℕ) (before after : MemTables) (old new : PurgeCounts)
    (step : PurgeStep) (s t : EngineState) : Type 0 where
  pub none : (g : ℕ) → needs_up_to file before g ≡ false
  pub ends : EndsCompaction to before old.stats new.stats step s t
  pub tables : after ≡ before
  pub rounds : new.rounds ≡ old.rounds
  pub past : (home : LogDirectories) (log : LogMap) → Represents home s log [] → file < last_file s
      → file < first_file t

-- a step of the compaction up to `file`: if groups need a file of Rewrite up to it, some of them were restated; else
-- the compaction has ended
abbrev pub GoesOnCompacting : ℕ → ℕ → Option ℕ → Option ℕ → MemTables → MemTables → PurgeCounts → PurgeCounts
    → PurgeStep → EngineState → EngineState → Type 0
GoesOnCompacting file budget from to before after old new step s t =
    ContinuesCompaction file budget from to before after old new step s t
    ⊎ LeavesNone file to before after old new step s t

-- The counts after a failed step of the compaction. The compaction is still under way. There are two cases:
-- - The tables and the counts are unchanged.
-- - Restating groups failed. The old copies of those groups that were restated count as garbage.
pub record StopsCompacting (file budget : ℕ) (from to : Option ℕ) (before : MemTables) (old new : PurgeCounts)
    (s t : EngineState) : Type 0 where
  pub still : to ≡ from
  pub rounds : new.rounds ≡ old.rounds
  pub stats : ((t.tables ≡ s.tables) × (new.stats ≡ old.stats))
      ⊎ ((groups : List ℕ) × (count : ℕ) × TakesGroups file budget before groups count
      × CountsGarbage file t.tables (take count groups) old.stats new.stats)

-- A purge of Append, if its files are together larger than the threshold. To rewrite a group means to copy to Rewrite
-- what the group has in Append's files up to the gate. `s` and `t` are the engine's states before and after a step.
use Rattle.std.specs.Prelude.{◌≡◌, ◌⊎◌, ◌↔◌, IsTrue, ℕ, max, Bool, true, false, List, [], Option, Some, None}
use Rattle.raft_log_fs.specs.Causes.{IsLater}
use Rattle.raft_log_record_base.specs.declared.errors.Error.{Error}
use Rattle.raft_log_record_base.specs.declared.errors.Error.TheVariants as errors
use Rattle.raft_log_record_base.specs.declared.pipe_log.LogQueue.TheVariants.{Append}
use Rattle.raft_log_record_items.specs.declared.item.LogItem.{LogItem}
use Rattle.raft_log_machine_laws.specs.Calls.Which.{InAppend, InRewrite}
use Rattle.raft_log_dual_pipes.specs.Calls.{SyncsQueue}
use Rattle.raft_log_dual_pipes.specs.Pipes.{LogPipes}
use Rattle.raft_log_memtables.specs.declared.mem_tables.MemTables.{MemTables}
use Rattle.raft_log_memtables.specs.Owing.{AreOwed}
use Rattle.raft_log_memtables.specs.Walking.{IsLeastOf, ListsGroups}
use Rattle.raft_log_purge_copy.specs.raft_log_engine_laws.specs.EngineState.{LogDirectories, LogMap, EngineState, has_failed}
use Rattle.raft_log_purge_copy.specs.raft_log_engine_laws.specs.Holding.{Represents, IsRecoverableAs}
use Rattle.raft_log_purge_copy.specs.raft_log_engine_laws.specs.Settled.{HoldsSettled}
use Rattle.raft_log_purge_policy.specs.declared.thresholds.Thresholds.{Thresholds}
use Rattle.raft_log_purge_policy.specs.declared.watermarks.Watermarks.{Watermarks}
use Rattle.raft_log_purge_policy.specs.Watermarks.{TakesAppend, first_at, watermarks_of}
use Rattle.raft_log_dual_pipes.specs.LastFile.{last_of}
use Rattle.raft_log_purge_policy.specs.declared.rounds.Rounds.{Rounds}
use Rattle.raft_log_purge_policy.specs.Behind.{round_behind}
use Rattle.raft_log_purge_policy.specs.Picking.{answers_at, asks_at, count_of, rewrites_at}
use Rattle.raft_log_purge_copy.specs.Marks.{CarriesMarks}
use Rattle.raft_log_purge_copy.specs.Moving.{IsRewrittenTo}
use Rattle.raft_log_purge_copy.specs.Reasons.{HasFileReason, HasPurgeReason}
use Rattle.raft_log_purge_copy.specs.Rewriting.{OweNothing}
use Rattle.raft_log_purge.specs.declared.expired.PickedGroups.{PickedGroups}
use Rattle.raft_log_purge.specs.Append.{RewritesSynced, StaysOrIsLeftSettled, up_to}

-- The groups.

-- for each group, the count of purges in a row that asked the caller to compact it was updated for one more purge
-- (`round_behind`)
abbrev pub CountsRound : Watermarks → MemTables → Rounds → Rounds → Type 0
CountsRound marks m old new =
    (g : ℕ) → count_of new g ≡ round_behind (asks_at marks m g) (count_of old g)

-- What a purge of Append picks, by the tables `m`. The watermarks `marks` are two files of Append, with which the purge
-- compares the files of each group. `old` has for each group how many purges in a row asked the caller to compact it.
-- `restated` says whether this purge has compacted Rewrite.
-- - `answered`: the groups that the purge returns to its caller.
-- - `rewritten`: the groups that the purge rewrites itself.
-- - `rounds`: the counts after this purge; `owed`: all tombstones that are owed.
pub record PicksGroups (marks : Watermarks) (restated : Bool) (m : MemTables) (old : Rounds)
    (picked : PickedGroups) : Type 0 where
  pub answered : ListsGroups (answers_at (Some marks) restated m) picked.answered.items
  pub rewritten : ListsGroups (rewrites_at marks (count_of old) m) picked.rewritten.items
  pub rounds : CountsRound marks m old picked.rounds
  pub owed : AreOwed m picked.marks.items

-- Append's files.

-- Files left Append's live range. `least` is the lowest of three files: the first pinned one (`held`), the active one,
-- and the first that has an entry or value of a group, by the tables `m`. If nothing was pending, the live range begins
-- at `least` now, or where it began if that is later. If also no tombstone is owed, the log keeps its contents.
pub record LosesBelow (held : Option ℕ) (m : MemTables) (s t : EngineState) : Type 0 where
  pub least : ℕ
  pub is : IsLeastOf Append (up_to held (last_of InAppend s.pipes)) m least
  pub same : t.tables ≡ s.tables
  pub counts : t.counts ≡ s.counts
  pub alive : has_failed s ≡ false → has_failed t ≡ false
  pub later : IsLater s.pipes.disk t.pipes.disk
  pub begins : (home : LogDirectories) (log : LogMap) → HoldsSettled home s log
      → first_at InAppend t.pipes ≡ max (first_at InAppend s.pipes) least
  pub keeps : OweNothing s.tables → (home : LogDirectories) (log : LogMap) → HoldsSettled home s log
      → HoldsSettled home t log

-- Taking files out of Append's live range failed. If nothing was pending, `HasFileReason` gives the reason. If also no
-- tombstone was owed, the log has the same contents, or the engine has failed and its files can be opened with them.
pub record FailsToLoseBelow (error : Error) (s t : EngineState) : Type 0 where
  pub tells : has_failed s ≡ false → IsTrue (has_failed t) ↔ (error ≡ errors.Failed)
  pub later : IsLater s.pipes.disk t.pipes.disk
  pub remains : StaysOrIsLeftSettled error s t
  pub cause : (home : LogDirectories) (log : LogMap) → HoldsSettled home s log → HasFileReason error s t

-- What a purge of Append does before it writes anything, so that it frees space on a full disk. `marks` are the owed
-- tombstones:
-- - `none`: If no tombstone is owed, Rewrite was synced, and then files left Append's live range, as in `LosesBelow`.
-- - `some`: Else nothing was done.
-- If no batch was pending, the log has the same contents.
pub record DeletesFirst (held : Option ℕ) (m : MemTables) (marks : List LogItem) (s t : EngineState) : Type 0 where
  pub none : marks ≡ [] → (synced : LogPipes) × SyncsQueue InRewrite s.pipes synced
      × LosesBelow held m (record s { pipes = synced }) t
  pub some : (marks ≡ [] → ⊥) → t ≡ s
  pub same : t.tables ≡ s.tables
  pub alive : has_failed s ≡ false → has_failed t ≡ false
  pub later : IsLater s.pipes.disk t.pipes.disk
  pub keeps : (home : LogDirectories) (log : LogMap) → Represents home s log [] → Represents home t log []

-- The owed tombstones were written. Then the groups that pass the test were rewritten up to the gate, Rewrite was
-- synced, and files left Append's live range. These groups have nothing in Append up to the gate, and no tombstone is
-- owed. If no batch was pending, the log has the same contents, and nothing is pending in either queue.
pub record RewritesPicked (test : ℕ → Bool) (gate : ℕ) (held : Option ℕ) (m : MemTables) (s t : EngineState)
    : Type 0 where
  pub carried : EngineState
  pub carries : CarriesMarks s carried
  pub copied : EngineState
  pub copies : RewritesSynced test gate carried copied
  pub loses : LosesBelow held m copied t
  pub alive : has_failed t ≡ false
  pub later : IsLater s.pipes.disk t.pipes.disk
  pub past : (g : ℕ) → test g ≡ true → IsRewrittenTo gate (t.tables g)
  pub unowed : OweNothing t.tables
  pub settles : (home : LogDirectories) (log : LogMap) → Represents home s log [] → HoldsSettled home t log

-- The whole.

-- Append was purged, and `groups` are returned. For each group, the count of purges in a row that asked the caller to
-- compact it was updated.
-- - `deletes`: If no tombstone was owed, files left the live range before anything was written.
-- - `rewrites`: Then the groups that the rules pick were rewritten, and after that files left the live range.
-- The rules use the tables `before` and the files before the purge.
pub record PurgesAppend (held : Option ℕ) (restated : Bool) (before after : MemTables) (old new : Rounds)
    (groups : List ℕ) (s t : EngineState) : Type 0 where
  pub answered : ListsGroups (answers_at (Some (watermarks_of s.pipes)) restated before) groups
  pub rounds : CountsRound (watermarks_of s.pipes) before old new
  pub marks : List LogItem
  pub owed : AreOwed before marks
  pub freed : EngineState
  pub deletes : DeletesFirst held before marks s freed
  pub rewrites : RewritesPicked (rewrites_at (watermarks_of s.pipes) (count_of old) before)
      (watermarks_of s.pipes).rewrite held after freed t

-- Nothing was done to Append, and the counts are unchanged. If Rewrite was compacted (`restated`), `groups` are those
-- that have more than 32 entries there; else there are none.
pub record LeavesAppend (restated : Bool) (before : MemTables) (old new : Rounds) (groups : List ℕ)
    (s t : EngineState) : Type 0 where
  pub answered : ListsGroups (answers_at None restated before) groups
  pub rounds : new ≡ old
  pub same : t ≡ s

-- Append was purged if it is past its threshold; else nothing was done to it
abbrev pub PurgesIfPast : Thresholds → Option ℕ → Bool → MemTables → MemTables → Rounds → Rounds → List ℕ
    → EngineState → EngineState → Type 0
PurgesIfPast thresholds held restated before after old new groups s t =
    (TakesAppend thresholds s.pipes × PurgesAppend held restated before after old new groups s t)
    ⊎ ((TakesAppend thresholds s.pipes → ⊥) × LeavesAppend restated before old new groups s t)

-- A purge of Append failed with `error`. If no batch was pending:
-- - `HasPurgeReason` gives the reason.
-- - The log has the same contents, or the engine has failed and its files can be opened with them.
pub record FailsToPurgeAppend (error : Error) (s t : EngineState) : Type 0 where
  pub tells : has_failed s ≡ false → IsTrue (has_failed t) ↔ (error ≡ errors.Failed)
  pub later : IsLater s.pipes.disk t.pipes.disk
  pub remains : (home : LogDirectories) (log : LogMap) → Represents home s log []
      → Represents home t log [] ⊎ ((error ≡ errors.Failed) × IsRecoverableAs home t.pipes.disk log [])
  pub cause : (home : LogDirectories) (log : LogMap) → Represents home s log [] → HasPurgeReason home log error s t

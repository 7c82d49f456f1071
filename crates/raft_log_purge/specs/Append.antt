-- A rewrite of Append. The gate is the last file of Append to be rewritten: all that groups have in Append's files up
-- to the gate is copied to Rewrite. Then these files leave Append's live range. `s` and `t` are the engine's states
-- before and after a step, `m` the memtables.
use Rattle.std.specs.Prelude.{◌≡◌, ◌⊎◌, ◌↔◌, ◌<◌, ◌==◌, IsTrue, ℕ, suc, min, max, Bool, true, false, List, [], Option, Some, None, MatchBool}
use Rattle.std.specs.List.{list_any}
use Rattle.raft_log_model_laws.specs.Groups.{taken}
use Rattle.raft_log_fs.specs.Causes.{IsLater}
use Rattle.raft_log_record_base.specs.declared.errors.Error.{Error}
use Rattle.raft_log_record_base.specs.declared.errors.Error.TheVariants as errors
use Rattle.raft_log_record_base.specs.declared.pipe_log.LogQueue.TheVariants.{Append}
use Rattle.raft_log_machine_laws.specs.Calls.Which.{InAppend, InRewrite}
use Rattle.raft_log_memtables.specs.declared.mem_tables.MemTables.{MemTables}
use Rattle.raft_log_memtables.specs.Walking.{IsLeastOf}
use Rattle.raft_log_dual_pipes.specs.Pipes.{LogPipes, LogRecordValue, is_failed}
use Rattle.raft_log_dual_pipes.specs.Calls.{RotatesQueue, SyncsQueue}
use Rattle.raft_log_purge_copy.specs.raft_log_engine_laws.specs.EngineState.{LogDirectories, LogMap, EngineState, has_failed}
use Rattle.raft_log_purge_copy.specs.raft_log_engine_laws.specs.Holding.{Represents, IsRecoverableAs}
use Rattle.raft_log_purge_copy.specs.raft_log_engine_laws.specs.Settled.{HoldsSettled}
use Rattle.raft_log_purge_policy.specs.Watermarks.{first_at}
use Rattle.raft_log_dual_pipes.specs.LastFile.{last_of}
use Rattle.raft_log_purge_copy.specs.Parts.{StaysInFile}
use Rattle.raft_log_purge_copy.specs.Marks.{CarriesMarks}
use Rattle.raft_log_purge_copy.specs.Groups.{Rewrites}
use Rattle.raft_log_purge_copy.specs.Moving.{IsRewrittenTo}
use Rattle.raft_log_purge_copy.specs.Reasons.{HasFileReason, HasPurgeReason, HasReason}
use Rattle.raft_log_purge_copy.specs.Rewriting.{OweNothing}
use Rattle.raft_log_purge_copy.specs.Syncing.{CountsEach}

-- The gate.

-- the requested file, but at most `last`; `last` if none was requested
abbrev pub up_to : Option ℕ → ℕ → ℕ
up_to None last = last
up_to (Some w) last = min w last

-- the gate: the last file of Append that is rewritten
abbrev pub gate_of : Option ℕ → LogPipes → ℕ
gate_of watermark v = up_to watermark (last_of InAppend v)

-- Append's active file is after the gate. If the gate was the active file, Append rotated; else nothing was done.
abbrev pub GoesOnPast : ℕ → LogPipes → LogPipes → Type 0
GoesOnPast gate v w = ((gate ≡ last_of InAppend v) × RotatesQueue InAppend v w)
    ⊎ ((gate < last_of InAppend v) × (w ≡ v))

-- the gate is the requested file (`watermark`), or the active file if that is lower or none was requested; afterwards
-- Append's active file is after the gate
pub record PassesGate (watermark : Option ℕ) (gate : ℕ) (v w : LogPipes) : Type 0 where
  pub is : gate ≡ gate_of watermark v
  pub goes : GoesOnPast gate v w
  pub alive : is_failed v ≡ false → is_failed w ≡ false
  pub later : IsLater v.disk w.disk

-- All groups.

-- by the tables, no group has an entry or value in files of Append up to the gate
abbrev pub AreRewrittenTo : ℕ → EngineState → Type 0
AreRewrittenTo gate s = (g : ℕ) → IsRewrittenTo gate (s.tables g)

-- Each group that passes the test was rewritten up to the gate. Rewrite was synced at the end. It was also synced
-- before a record whenever this rewrite had written 512 KiB or more since its last sync. If no tombstone was owed and
-- no batch pending, the log has the same contents, and nothing is pending in either queue.
pub record RewritesSynced (test : ℕ → Bool) (gate : ℕ) (s t : EngineState) : Type 0 where
  pub copied : EngineState
  pub copies : Rewrites test gate s copied
  pub handed : CountsEach s.pipes copied.pipes
  pub syncs : SyncsQueue InRewrite copied.pipes t.pipes
  pub same : t ≡ record copied { pipes = t.pipes }
  pub alive : has_failed t ≡ false
  pub later : IsLater s.pipes.disk t.pipes.disk
  pub stays : StaysInFile s.pipes t.pipes
  pub settles : OweNothing s.tables → (home : LogDirectories) (m : LogMap) → Represents home s m [] → HoldsSettled home t m

-- each of these groups was rewritten up to the gate, and then Rewrite was synced
abbrev pub RewritesThese : List ℕ → ℕ → EngineState → EngineState → Type 0
RewritesThese groups gate s t = RewritesSynced (λ g. list_any (λ k. k == g) groups) gate s t

-- all groups were rewritten up to the gate, and then Rewrite was synced
abbrev pub RewritesAll : ℕ → EngineState → EngineState → Type 0
RewritesAll gate s t = RewritesSynced (λ g. true) gate s t

-- Append's files.

-- The number at which Append's live range begins after the purge. It is the largest of three: the first number before
-- (in `v`), the number after the gate, and `least`. `LosesTo` says which file `least` is.
abbrev pub beginning : ℕ → ℕ → LogPipes → ℕ
beginning gate least v = max (first_at InAppend v) (max (suc gate) least)

-- Files left Append's live range. `least` is the lowest file in which, by the tables `m`, a group has an entry or
-- value, or the active file if that is lower. If nothing was pending:
-- - `begins`: the live range begins at the latest of three files: the one after the gate, `least`, and where it began.
-- - `keeps`: the log keeps its contents, if no group has anything in files up to the gate and no tombstone is owed.
pub record LosesTo (gate : ℕ) (m : MemTables) (s t : EngineState) : Type 0 where
  pub least : ℕ
  pub is : IsLeastOf Append (last_of InAppend s.pipes) m least
  pub same : t.tables ≡ s.tables
  pub counts : t.counts ≡ s.counts
  pub alive : has_failed s ≡ false → has_failed t ≡ false
  pub later : IsLater s.pipes.disk t.pipes.disk
  pub stays : StaysInFile s.pipes t.pipes
  pub begins : (home : LogDirectories) (log : LogMap) → HoldsSettled home s log
      → first_at InAppend t.pipes ≡ beginning gate least s.pipes
  pub keeps : AreRewrittenTo gate s → OweNothing s.tables → (home : LogDirectories) (log : LogMap)
      → HoldsSettled home s log → HoldsSettled home t log

-- The whole.

-- Append's live range has one file
abbrev pub HasOneFile : LogPipes → Type 0
HasOneFile v = first_at InAppend v ≡ last_of InAppend v

-- whether the caller asked the rewrite to end after this step; without a request it goes through all steps
abbrev pub ends_after : ℕ → Option ℕ → Bool
ends_after step None = false
ends_after step (Some n) = n == step

-- all groups were rewritten up to the gate, and then files left Append's live range
abbrev pub RewritesAndLoses : ℕ → MemTables → EngineState → EngineState → Type 0
RewritesAndLoses gate m s t = (mid : EngineState) × RewritesAll gate s mid × LosesTo gate m mid t

-- What is done after step 1, which writes the owed tombstones:
-- - Step 2 rewrites all groups, unless the rewrite is to end after step 1.
-- - Step 3 takes files out of Append's live range, unless the rewrite is to end after step 1 or 2.
abbrev pub GoesOnBehindMarks : Option ℕ → ℕ → MemTables → EngineState → EngineState → Type 0
GoesOnBehindMarks exit gate m s t = MatchBool (ends_after 1 exit) (t ≡ s)
    (MatchBool (ends_after 2 exit) (RewritesAll gate s t) (RewritesAndLoses gate m s t))

-- Append was rewritten. It was synced, and rotated if its active file was the gate. The owed tombstones were written.
-- Then all groups were rewritten and files left the live range, unless `exit` requested an earlier end. The log has the
-- same contents, nothing is pending, and no tombstone is owed. If neither a watermark nor an earlier end was requested,
-- Append has one file left.
pub record RewritesAppend (watermark exit : Option ℕ) (m : MemTables) (s t : EngineState) : Type 0 where
  pub synced : LogPipes
  pub syncs : SyncsQueue InAppend s.pipes synced
  pub gate : ℕ
  pub past : LogPipes
  pub passes : PassesGate watermark gate synced past
  pub carried : EngineState
  pub carries : CarriesMarks (record s { pipes = past }) carried
  pub goes_on : GoesOnBehindMarks exit gate m carried t
  pub alive : has_failed t ≡ false
  pub later : IsLater s.pipes.disk t.pipes.disk
  pub unowed : OweNothing t.tables
  pub settles : (home : LogDirectories) (log : LogMap) (pending : List LogRecordValue) → Represents home s log pending
      → HoldsSettled home t (taken log pending)
  pub one : watermark ≡ None → exit ≡ None → (home : LogDirectories) (log : LogMap) (pending : List LogRecordValue)
      → Represents home s log pending → HasOneFile t.pipes

-- Failures.

-- A step failed. Suppose that no tombstone was owed and nothing pending before it. Then the log still has the same
-- contents, or the engine has failed and its files can be opened with them.
abbrev pub StaysOrIsLeftSettled : Error → EngineState → EngineState → Type 0
StaysOrIsLeftSettled error s t = OweNothing s.tables → (home : LogDirectories) (m : LogMap) → HoldsSettled home s m
    → Represents home t m [] ⊎ ((error ≡ errors.Failed) × IsRecoverableAs home t.pipes.disk m [])

-- Taking Append's files up to the gate out of the live range failed.
-- - `remains`: if no group had anything in these files, the contents are kept as `StaysOrIsLeftSettled` says.
-- - `cause`: if the gate was before Append's active file and nothing was pending, `HasFileReason` gives the reason.
pub record FailsToLoseTo (gate : ℕ) (error : Error) (s t : EngineState) : Type 0 where
  pub tells : has_failed s ≡ false → IsTrue (has_failed t) ↔ (error ≡ errors.Failed)
  pub later : IsLater s.pipes.disk t.pipes.disk
  pub remains : AreRewrittenTo gate s → StaysOrIsLeftSettled error s t
  pub cause : gate < last_of InAppend s.pipes → (home : LogDirectories) (log : LogMap) → HoldsSettled home s log
      → HasFileReason error s t

-- The owed tombstones were written, and a later step failed.
-- - `remains`: the contents are kept as `StaysOrIsLeftSettled` says.
-- - `cause`: if the gate was before Append's active file, no tombstone was owed and nothing pending, `HasReason` gives
--   the reason.
pub record StopsGoingOn (gate : ℕ) (error : Error) (s t : EngineState) : Type 0 where
  pub tells : has_failed s ≡ false → IsTrue (has_failed t) ↔ (error ≡ errors.Failed)
  pub later : IsLater s.pipes.disk t.pipes.disk
  pub remains : StaysOrIsLeftSettled error s t
  pub cause : gate < last_of InAppend s.pipes → OweNothing s.tables → (home : LogDirectories) (log : LogMap)
      → HoldsSettled home s log → HasReason home log error s t

-- A rewrite of Append failed with `error`, and `HasPurgeReason` gives the reason. Afterwards one of two is true:
-- - The log has the same contents, and no batch is pending any more.
-- - The engine has failed, and its files can be opened with these contents. The batches that were pending are durable
--   or still pending.
pub record FailsToRewriteAppend (error : Error) (s t : EngineState) : Type 0 where
  pub tells : has_failed s ≡ false → IsTrue (has_failed t) ↔ (error ≡ errors.Failed)
  pub later : IsLater s.pipes.disk t.pipes.disk
  pub remains : (home : LogDirectories) (log : LogMap) (pending : List LogRecordValue) → Represents home s log pending
      → Represents home t (taken log pending) []
      ⊎ ((error ≡ errors.Failed) × (IsRecoverableAs home t.pipes.disk (taken log pending) []
      ⊎ IsRecoverableAs home t.pipes.disk log pending))
  pub cause : (home : LogDirectories) (log : LogMap) (pending : List LogRecordValue) → Represents home s log pending
      → HasPurgeReason home (taken log pending) error s t

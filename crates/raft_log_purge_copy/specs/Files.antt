-- Files that are no longer needed leave a queue's live range, and are deleted or kept for recycling.
use Rattle.std.specs.Prelude.{◌≡◌, ◌↔◌, ◌⊎◌, ◌-◌, IsTrue, ℕ, max, None, false, []}
use Rattle.raft_log_fs.specs.Causes.{IsLater}
use Rattle.raft_log_record_base.specs.declared.errors.Error.{Error}
use Rattle.raft_log_record_base.specs.declared.errors.Error.TheVariants as errors
use Rattle.raft_log_record_base.specs.declared.pipe_log.LogQueue.{LogQueue}
use Rattle.raft_log_machine_laws.specs.Whereabouts.{OwesNothing}
use Rattle.raft_log_machine_laws.specs.Calls.{Which}
use Rattle.raft_log_machine_laws.specs.Calls.Which.{InAppend, InRewrite}
use Rattle.raft_log_file_pipe.specs.Purging.{IsInSpan}
use Rattle.raft_log_memtable_index.specs.Shown.{Shown, whereabouts}
use Rattle.raft_log_memtables.specs.declared.mem_tables.MemTables.{MemTables}
use Rattle.raft_log_memtables.specs.Walking.{IsLeastOf}
use Rattle.raft_log_dual_pipes.specs.State.{pipe_at}
use Rattle.raft_log_dual_pipes.specs.Pipes.{files_of, which_of}
use Rattle.raft_log_engine_laws.specs.EngineState.{LogDirectories, LogMap, EngineState, has_failed}
use Rattle.raft_log_engine_laws.specs.Holding.{IsRecoverableAs}
use Rattle.raft_log_engine_laws.specs.Settled.{HoldsSettled}
use Rattle.raft_log_purge_copy.specs.Reasons.{HasFileReason}

-- What must hold of the tables before files leave a queue's live range. For Append, no tombstone is owed. For Rewrite,
-- there is no condition.
abbrev pub MayLoseFiles : Which → (ℕ → Shown) → Type 0
MayLoseFiles InAppend v = (g : ℕ) → OwesNothing (whereabouts (v g))
MayLoseFiles InRewrite v = Unit {0}

-- `count` files left the queue's live range, and no block is cached. `least` is the lowest file of the queue that any
-- group needs, or `limit` if that is lower or no group needs a file. Suppose that nothing was pending. Then the live
-- range begins at `least` now, or where it began before if that is later. If also no tombstone is owed or the queue is
-- Rewrite, the log keeps its contents.
pub record LosesFiles (queue : LogQueue) (limit : ℕ) (m : MemTables) (count : ℕ) (s t : EngineState) : Type 0 where
  pub least : ℕ
  pub is : IsLeastOf queue limit m least
  pub counted : count ≡ least - (pipe_at (which_of queue) (files_of s.pipes)).first_seq
  pub alive : has_failed s ≡ false → has_failed t ≡ false
  pub none : t.cache.place ≡ None
  pub later : IsLater s.pipes.disk t.pipes.disk
  pub begins : (home : LogDirectories) (log : LogMap) → HoldsSettled home s log
      → (pipe_at (which_of queue) (files_of t.pipes)).first_seq
      ≡ max (pipe_at (which_of queue) (files_of s.pipes)).first_seq least
  pub keeps : (home : LogDirectories) (log : LogMap) → HoldsSettled home s log
      → MayLoseFiles (which_of queue) s.tables → HoldsSettled home t log

-- What is left after taking files out of the live range failed, by the error:
-- - `Failed`: an open of the log's files finds the contents `m`, no batch pending
-- - any other: the engine's log has the contents `m`, nothing pending in either queue
abbrev pub RemainsSettled : LogDirectories → LogMap → EngineState → Error → Type 0
RemainsSettled home m t errors.Failed = IsRecoverableAs home t.pipes.disk m []
RemainsSettled home m t _ = HoldsSettled home t m

-- The error is `Other`, and `limit` isn't a file number in the queue's live range.
abbrev pub IsNoLimit : LogQueue → ℕ → Error → EngineState → Type 0
IsNoLimit queue limit (errors.Other fault) s =
    IsInSpan limit (pipe_at (which_of queue) (files_of s.pipes)) → ⊥
IsNoLimit queue limit _ s = ⊥

-- Taking files below `limit` out of the queue's live range failed. Suppose that nothing was pending. Then the error
-- says why, or `limit` isn't in that range. The log keeps its contents, or if the error is `Failed`, an open finds
-- them. For Append, the last sentence requires that no tombstone is owed.
pub record FailsToLoseFiles (queue : LogQueue) (limit : ℕ) (error : Error) (s t : EngineState) : Type 0 where
  pub tells : has_failed s ≡ false → IsTrue (has_failed t) ↔ (error ≡ errors.Failed)
  pub later : IsLater s.pipes.disk t.pipes.disk
  pub remains : (home : LogDirectories) (log : LogMap) → HoldsSettled home s log
      → MayLoseFiles (which_of queue) s.tables → RemainsSettled home log t error
  pub cause : (home : LogDirectories) (log : LogMap) → HoldsSettled home s log
      → HasFileReason error s t ⊎ IsNoLimit queue limit error s

-- A purge of all stale files. Each queue rotates. Then the files below its lowest file in use leave its live range. A
-- file is in use if it is active, or a group needs it.
use Rattle.std.specs.Prelude.{◌≡◌, ◌↔◌, ◌⊎◌, IsTrue, ℕ, List, false}
use Rattle.raft_log_model_laws.specs.Groups.{taken}
use Rattle.raft_log_fs.specs.Causes.{IsLater}
use Rattle.raft_log_record_base.specs.declared.errors.Error.{Error}
use Rattle.raft_log_record_base.specs.declared.errors.Error.TheVariants as errors
use Rattle.raft_log_record_base.specs.declared.pipe_log.LogQueue.{LogQueue}
use Rattle.raft_log_record_base.specs.declared.pipe_log.LogQueue.TheVariants.{Append, Rewrite}
use Rattle.raft_log_machine_laws.specs.Calls.Which.{InAppend}
use Rattle.raft_log_memtables.specs.declared.mem_tables.MemTables.{MemTables}
use Rattle.raft_log_dual_pipes.specs.State.{pipe_at}
use Rattle.raft_log_dual_pipes.specs.Pipes.{LogPipes, LogRecordValue, files_of, which_of}
use Rattle.raft_log_dual_pipes.specs.Calls.{RotatesQueue, SyncsQueue}
use Rattle.raft_log_engine_laws.specs.EngineState.{LogDirectories, LogMap, EngineState, has_failed}
use Rattle.raft_log_engine_laws.specs.Holding.{Represents, IsRecoverableAs}
use Rattle.raft_log_engine_laws.specs.Settled.{HoldsSettled}
use Rattle.raft_log_purge_copy.specs.Parts.{Remains}
use Rattle.raft_log_purge_copy.specs.Marks.{CarriesMarks}
use Rattle.raft_log_purge_copy.specs.Files.{LosesFiles, MayLoseFiles}
use Rattle.raft_log_purge_copy.specs.Reasons.{HasFileReason, HasPurgeReason}

-- the number of the active file of a queue
abbrev pub written_file : LogQueue → LogPipes → ℕ
written_file queue v = (pipe_at (which_of queue) (files_of v)).active.seq

-- The queue rotated. Then `count` files left its live range: those below its lowest file in use. A log with nothing
-- pending keeps its contents, if no tombstone is owed or the queue is Rewrite.
pub record TurnsAndLoses (queue : LogQueue) (m : MemTables) (count : ℕ) (s t : EngineState) : Type 0 where
  pub turned : LogPipes
  pub turns : RotatesQueue (which_of queue) s.pipes turned
  pub loses : LosesFiles queue (written_file queue turned) m count (record s { pipes = turned }) t
  pub alive : has_failed t ≡ false
  pub later : IsLater s.pipes.disk t.pipes.disk
  pub keeps : (home : LogDirectories) (log : LogMap) → HoldsSettled home s log
      → MayLoseFiles (which_of queue) s.tables → HoldsSettled home t log

-- The queue's rotation failed, or taking its files out of the live range did. Suppose that nothing was pending. Then
-- the error says why. The log keeps its contents, or if the error is `Failed`, an open finds them. For Append, the last
-- sentence requires that no tombstone is owed.
pub record FailsToTurn (queue : LogQueue) (error : Error) (s t : EngineState) : Type 0 where
  pub tells : has_failed s ≡ false → IsTrue (has_failed t) ↔ (error ≡ errors.Failed)
  pub later : IsLater s.pipes.disk t.pipes.disk
  pub remains : (home : LogDirectories) (log : LogMap) → HoldsSettled home s log
      → MayLoseFiles (which_of queue) s.tables → Remains home log t error
  pub cause : (home : LogDirectories) (log : LogMap) → HoldsSettled home s log → HasFileReason error s t

-- All stale files were purged. Append was synced, and the owed tombstones were written to Rewrite. Then each queue,
-- Rewrite first, rotated, and the files below its lowest file in use left its live range. The memtables `m` say which
-- files the groups need. The batches that were pending are now in the log's contents, and nothing is pending in either
-- queue.
pub record PurgesAllStale (m : MemTables) (s t : EngineState) : Type 0 where
  pub synced : LogPipes
  pub syncs : SyncsQueue InAppend s.pipes synced
  pub carried : EngineState
  pub carries : CarriesMarks (record s { pipes = synced }) carried
  pub rewritten : EngineState
  pub from_rewrite : ℕ
  pub rewrite : TurnsAndLoses Rewrite m from_rewrite carried rewritten
  pub from_append : ℕ
  pub append : TurnsAndLoses Append m from_append rewritten t
  pub alive : has_failed t ≡ false
  pub later : IsLater s.pipes.disk t.pipes.disk
  pub settles : (home : LogDirectories) (log : LogMap) (pending : List LogRecordValue) → Represents home s log pending
      → HoldsSettled home t (taken log pending)

-- A purge of all stale files failed, and the error says why:
-- - `Failed`: the log's files can be opened, with the batches that were pending now durable or still pending.
-- - Any other error: the log has its contents with these batches, and none is pending.
pub record FailsToPurgeAll (error : Error) (s t : EngineState) : Type 0 where
  pub tells : has_failed s ≡ false → IsTrue (has_failed t) ↔ (error ≡ errors.Failed)
  pub later : IsLater s.pipes.disk t.pipes.disk
  pub remains : (home : LogDirectories) (log : LogMap) (pending : List LogRecordValue) → Represents home s log pending
      → Remains home (taken log pending) t error
      ⊎ ((error ≡ errors.Failed) × IsRecoverableAs home t.pipes.disk log pending)
  pub cause : (home : LogDirectories) (log : LogMap) (pending : List LogRecordValue) → Represents home s log pending
      → HasPurgeReason home (taken log pending) error s t

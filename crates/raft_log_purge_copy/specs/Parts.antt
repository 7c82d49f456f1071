-- What a failed part of a purge leaves, and which record a purge makes of a batch.
use Rattle.std.specs.Prelude.{◌≡◌, ◌↔◌, IsTrue, ℕ, false, []}
use Rattle.raft_log_fs.specs.Causes.{IsLater}
use Rattle.raft_log_record_base.specs.declared.errors.Error.{Error}
use Rattle.raft_log_record_base.specs.declared.errors.Error.TheVariants as errors
use Rattle.raft_log_record_batches.specs.Batch.{Batch}
use Rattle.raft_log_block_cache.specs.Signing.{SaysItself, signed_for}
use Rattle.raft_log_machine_laws.specs.Calls.Which.{InAppend}
use Rattle.raft_log_dual_pipes.specs.State.{pipe_at}
use Rattle.raft_log_dual_pipes.specs.Pipes.{LogPipes, RunsOn, State, files_of}
use Rattle.raft_log_engine_laws.specs.EngineState.{LogDirectories, IsLaidOut, LogMap, EngineState, has_failed, sense}
use Rattle.raft_log_engine_laws.specs.Holding.{Represents, IsRecoverableAs}
use Rattle.raft_log_purge_copy.specs.Reasons.{HasPurgeReason}

-- What a failed part of a purge left in the engine `t`, by the error. In both cases, no batch is pending.
-- - `Failed`: an open of the log's files finds the contents `m`.
-- - Any other error: the engine's log has the contents `m`.
abbrev pub Remains : LogDirectories → LogMap → EngineState → Error → Type 0
Remains home m t errors.Failed = IsRecoverableAs home t.pipes.disk m []
Remains home m t _ = Represents home t m []

-- The part of a purge that writes the owed tombstones failed, and `error` says why. If the engine hadn't failed before,
-- it has failed now exactly if the error is `Failed`. If no batch was pending, the log has the same contents, or an
-- open of its files finds them (`Remains`).
pub record PartIsRefused (error : Error) (s t : EngineState) : Type 0 where
  pub tells : has_failed s ≡ false → IsTrue (has_failed t) ↔ (error ≡ errors.Failed)
  pub later : IsLater s.pipes.disk t.pipes.disk
  pub remains : (home : LogDirectories) (m : LogMap) → Represents home s m [] → Remains home m t error
  pub cause : (home : LogDirectories) (m : LogMap) → Represents home s m [] → HasPurgeReason home m error s t

-- `made` has the items and entries of batch `b`. Unless `b` is empty, its record, signed for any file, is read in that
-- file as one record with the contents of `b`.
pub record IsRecordMade (b made : Batch) : Type 0 where
  pub items : made.items ≡ b.items
  pub entries : made.entries ≡ b.entries
  pub says : SaysItself (signed_for b) b
  pub laid : IsLaidOut b

-- the number of Append's active file
abbrev pub append_file : LogPipes → ℕ
append_file v = (pipe_at InAppend (files_of v)).active.seq

-- If the pipes `v` run over a log, the pipes `w` run over one in the same directories. Append's active file then has
-- the same number in both.
abbrev pub StaysInFile : LogPipes → LogPipes → Type 0
StaysInFile v w = (home : LogDirectories) (s : State) → RunsOn (sense home) v s
    → ((next : State) × RunsOn (sense home) w next) × (append_file w ≡ append_file v)

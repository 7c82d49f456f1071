-- What is on the disk after one of the two pipes of an engine fails: a log that may be opened again.
use Rattle.std.specs.Prelude.{◌≡◌, ℕ, ◌⊎◌, None, List, [], ◌∷◌, ◌++◌}
use Rattle.raft_log_model_laws.specs.Item.{Record}
use Rattle.raft_log_model_laws.specs.Groups.{Map, taken}
use Rattle.raft_log_fs.specs.Disk.{Disk}
use Rattle.raft_log_record_base.specs.declared.errors.Error.TheVariants as errors
use Rattle.raft_log_record_base.specs.declared.pipe_log.LogQueue.{LogQueue}
use Rattle.raft_log_record_base.specs.declared.pipe_log.LogFileContext.{LogFileContext}
use Rattle.raft_log_file_pipe.specs.Appending.{AppendFails}
use Rattle.raft_log_file_pipe.specs.Exits.{FailsToRotate, FailsToSyncPipe}
use Rattle.raft_log_file_pipe.specs.declared.pipe_files.PipeFiles.{PipeFiles}
use Rattle.raft_log_file_pipe.specs.declared.new_files.NewFiles.{NewFiles}
use Rattle.raft_log_machine_laws.specs.Calls.{Which}
use Rattle.raft_log_machine_laws.specs.Calls.Which.{InAppend}
use Rattle.raft_log_machine_laws.specs.Log.{View}
use Rattle.raft_log_machine_laws.specs.Tables.{GrowsTo}
use Rattle.raft_log_dual_pipes.specs.Queues.{TwoQueues, AreTwoQueues, layout_at, SaysRecord}
use Rattle.raft_log_dual_pipes.specs.State.{Pipes, pipe_at}
use Rattle.raft_log_dual_pipes.specs.OpenOrClosed.{OpenPipes, both_open, with_open}
use Rattle.raft_log_dual_pipes.specs.OnDisk.{LogLiesOn}
use Rattle.raft_log_dual_pipes.specs.Writing.{IsAtOn}

-- Some log is on the disk `d`. A prefix of the batches `pending` may be synced now: the log's contents are the map `m`
-- after this prefix, and the other batches are still pending.
pub record LogEndsLying {R E V : Type 0} (log : TwoQueues R E V) (o : OpenPipes) (d : Disk) (m : Map E V)
    (pending : List (Record E V)) : Type 0 where
  pub done : List (Record E V)
  pub rest : List (Record E V)
  pub splits : done ++ rest ≡ pending
  pub lies : LogLiesOn log o d (taken m done) rest

-- which pipes run after the pipe of this queue has failed: only the other one
abbrev pub failed_pipe : Which → Pipes → OpenPipes
failed_pipe which p = with_open which (both_open p) None

-- The log that is on the disk after a pipe fails.
-- - `sync`: a sync failed. The log has the same contents and the same pending batches.
-- - `rotation`: a rotation failed. The log is the same, but a prefix of the pending batches may be synced now.
-- - `batch`: an append to Append failed with `Failed`. The log is as after a failed rotation, with the new batch (`y`)
--   as the last one or without it.
pub record FailedPipeLeavesALog {R E V : Type 0} (log : TwoQueues R E V) (p : Pipes) (old : Disk)
    (v : View E V) (m : Map E V) (pending : List (Record E V)) : Type 0 where
  pub sync : (which : Which) (new : Disk)
      → FailsToSyncPipe (layout_at which log).format (layout_at which log).own (layout_at which log).paths
      (pipe_at which p) old new
      → LogLiesOn log (failed_pipe which p) new m pending
  pub rotation : (which : Which) (header : List ℕ) (new : Disk)
      → FailsToRotate (layout_at which log).format (layout_at which log).own (layout_at which log).paths header
      (pipe_at which p) old new
      → LogEndsLying log (failed_pipe which p) new m pending
  pub batch : (u : ℕ → View E V) (begin : NewFiles) (queue : LogQueue) (signed : LogFileContext → List ℕ)
      (y : Record E V) → SaysRecord log.says log.append queue signed y → (after : PipeFiles) (new : Disk)
      → AppendFails log.append.format log.append.own log.append.paths begin queue signed p.append after
      errors.Failed old new
      → after.first_seq ≡ p.append.first_seq → ((n : ℕ) → GrowsTo y n v (u n))
      → LogEndsLying log (failed_pipe InAppend p) new m pending
      ⊎ LogEndsLying log (failed_pipe InAppend p) new m (pending ++ y ∷ [])

-- `FailedPipeLeavesALog` holds if both pipes run over a log and an engine's view of the log is true
abbrev pub FailedPipesLeaveLogs : {R E V : Type 0} → TwoQueues R E V → Type 0
FailedPipesLeaveLogs {R} {E} {V} log = AreTwoQueues log → (p : Pipes) (old : Disk) (v : View E V)
    (m : Map E V) (pending : List (Record E V)) → IsAtOn log p old v m pending
    → FailedPipeLeavesALog log p old v m pending

-- What an engine's contracts state of its log on a disk, and what holds after a batch was written.
use Rattle.std.specs.Prelude.{◌≡◌, ℕ, List, [], ◌∷◌, ◌++◌}
use Rattle.raft_log_model_laws.specs.Item.{Record}
use Rattle.raft_log_model_laws.specs.Groups.{Map, taken}
use Rattle.raft_log_fs.specs.Disk.{Disk}
use Rattle.raft_log_record_base.specs.declared.pipe_log.LogQueue.{LogQueue}
use Rattle.raft_log_record_base.specs.declared.pipe_log.FileBlockHandle.{FileBlockHandle}
use Rattle.raft_log_record_base.specs.declared.pipe_log.LogFileContext.{LogFileContext}
use Rattle.raft_log_file_pipe.specs.Appending.{AppendsAt}
use Rattle.raft_log_file_pipe.specs.declared.pipe_files.PipeFiles.{PipeFiles}
use Rattle.raft_log_file_pipe.specs.declared.new_files.NewFiles.{NewFiles}
use Rattle.raft_log_machine_laws.specs.Calls.Which.{InAppend}
use Rattle.raft_log_machine_laws.specs.Log.{View, IsAt}
use Rattle.raft_log_machine_laws.specs.Tables.{GrowsTo}
use Rattle.raft_log_dual_pipes.specs.Queues.{TwoQueues, AreTwoQueues, SaysRecord}
use Rattle.raft_log_dual_pipes.specs.State.{LogOnDisk, Pipes, with_pipe, Run, Ties}

-- The pipes run over some log on the disk `d`. `v`, an engine's view of the log (what the engine knows of it), is true.
-- The log's synced contents are the map `m`. The batches in `pending` were written after that, and aren't synced yet.
pub record IsAtOn {R E V : Type 0} (log : TwoQueues R E V) (p : Pipes) (d : Disk) (v : View E V) (m : Map E V)
    (pending : List (Record E V)) : Type 0 where
  pub state : LogOnDisk R
  pub disk : state.disk ≡ d
  pub run : Run log p state
  pub at : IsAt (Ties log state) v m pending

-- As `IsAtOn`, except that a prefix of the batches `pending` may be synced now. The log's contents are `m` after this
-- prefix, and the other batches are still pending.
pub record EndsOn {R E V : Type 0} (log : TwoQueues R E V) (p : Pipes) (d : Disk) (v : View E V) (m : Map E V)
    (pending : List (Record E V)) : Type 0 where
  pub done : List (Record E V)
  pub rest : List (Record E V)
  pub splits : done ++ rest ≡ pending
  pub at : IsAtOn log p d v (taken m done) rest

-- After a batch with the record `y` was written to Append, it is the last pending one. A prefix of the batches that
-- were pending before may be synced now. `v` is the engine's view before the write, and `u` after it.
abbrev pub WrittenIsPending : {R E V : Type 0} → TwoQueues R E V → Type 0
WrittenIsPending {R} {E} {V} log = AreTwoQueues log → (p : Pipes) (old new : Disk) (v u : View E V)
    (m : Map E V) (pending : List (Record E V)) → IsAtOn log p old v m pending
    → (begin : NewFiles) (queue : LogQueue) (signed : LogFileContext → List ℕ) (y : Record E V)
    → SaysRecord log.says log.append queue signed y → (after : PipeFiles) (block : FileBlockHandle)
    → AppendsAt log.append.format log.append.own log.append.paths begin queue signed p.append after block old
    new
    → after.first_seq ≡ p.append.first_seq → GrowsTo y block.id.seq v u
    → EndsOn log (with_pipe InAppend p after) new u m (pending ++ y ∷ [])

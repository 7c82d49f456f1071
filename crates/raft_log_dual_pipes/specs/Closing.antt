-- Closing the pipes of a log. First each active file is finished: truncated after its records, and synced. Then the
-- files kept for recycling get reserved names.
use Rattle.std.specs.Prelude.{◌≡◌, ◌⊎◌, Some, None, List}
use Rattle.raft_log_model_laws.specs.Item.{Record}
use Rattle.raft_log_model_laws.specs.Groups.{Map}
use Rattle.raft_log_fs.specs.Disk.{Disk}
use Rattle.raft_log_file_writer.specs.LogQueue.{LogFiles}
use Rattle.raft_log_active_file.specs.Queue.{settled}
use Rattle.raft_log_active_file.specs.Rotation.{StandsWithRecords}
use Rattle.raft_log_file_pipe.specs.Files.{Listed}
use Rattle.raft_log_file_pipe.specs.Closing.{AreBelow, IsSettledBy, LeavesClosed, StaysLeft}
use Rattle.raft_log_file_pipe.specs.declared.pipe_files.PipeFiles.{PipeFiles}
use Rattle.raft_log_machine_laws.specs.Model.{Files}
use Rattle.raft_log_machine_laws.specs.Moves.{Moved}
use Rattle.raft_log_machine_laws.specs.Calls.{Which, LeavesOut, Settles, FailsWhole}
use Rattle.raft_log_machine_laws.specs.Log.{View, IsAt, ViewEndsAt}
use Rattle.raft_log_dual_pipes.specs.Queues.{TwoQueues, AreTwoQueues, layout_at}
use Rattle.raft_log_dual_pipes.specs.State.{LogOnDisk, spanned_at, Pipes, Run, Ties}
use Rattle.raft_log_dual_pipes.specs.Turning.{in_span}
use Rattle.raft_log_dual_pipes.specs.Steps.{next_log}
use Rattle.raft_log_dual_pipes.specs.OpenOrClosed.{OpenPipes, none_open, with_open, IsOpenOrClosed, LeavesQueue}

-- the queue has these `files` on the disk `d`, and its last file holds its records
abbrev pub LeftAt : {R E V : Type 0} → TwoQueues R E V → Which → Disk → LogFiles R → Type 0
LeftAt log which d files = StandsWithRecords (layout_at which log).format (layout_at which log).own d files d

-- `files` are the files of the queue `q`: unchanged, or with all records synced and no stale bytes after them
abbrev pub IsOrIsSettled : {R : Type 0} → LogFiles R → LogFiles R → Type 0
IsOrIsSettled q files = (files ≡ q) ⊎ (files ≡ settled q)

-- What closing the pipe of one queue leaves, whatever the state of the other queue.
-- - `closes`: the queue's last file holds its records. The queue is unchanged, or all its records are synced.
-- - `settles`: if the active file was finished, all records of the queue are synced.
-- - `below`, `below_first`: each file kept for recycling has a reserved name, or its number is below the live range
--   (and so below the last file's number).
pub record ClosesBeside {R E V : Type 0} (log : TwoQueues R E V) (which : Which) (o : OpenPipes)
    (files : PipeFiles) (s : LogOnDisk R) : Type 0 where
  pub closes : (new : Disk)
      → LeavesClosed (layout_at which log).format (layout_at which log).own (layout_at which log).paths files
      s.disk new
      → LeavesQueue log which o None s new
      (λ next. IsOrIsSettled (spanned_at which s).files next × LeftAt log which new next)
      (LeavesOut (Ties log) which)
  pub settles : (new : Disk)
      → IsSettledBy (layout_at which log).format (layout_at which log).own (layout_at which log).paths files
      s.disk new
      → LeavesQueue log which o None s new
      (λ next. (next ≡ settled (spanned_at which s).files) × LeftAt log which new next)
      (Settles (Ties log) which)
  pub below : AreBelow (spanned_at which s).files.last files.recycled.items
  pub below_first : AreBelow (spanned_at which s).first files.recycled.items

-- if the pipe of one queue runs, closing it leaves what `ClosesBeside` says, whatever the state of the other queue
abbrev pub CloseIsAStep : {R E V : Type 0} → TwoQueues R E V → Type 0
CloseIsAStep {R} log = AreTwoQueues log → (which : Which) (o : OpenPipes) (files : PipeFiles)
    (s : LogOnDisk R) → IsOpenOrClosed log (with_open which o (Some files)) s → ClosesBeside log which o files s

-- The pipe of a queue is closed. Each file that it kept for recycling (`kept`) got a reserved name or failed to get
-- one. Premise: the files of `kept` that had no reserved name had numbers below the live range. Then the queue's last
-- file still holds its records, and the log's numbered files are the same.
abbrev pub NamesAreReserved : {R E V : Type 0} → TwoQueues R E V → Type 0
NamesAreReserved {R} log = AreTwoQueues log → (which : Which) (o : OpenPipes) (kept : List Listed)
    (s : LogOnDisk R) (new : Disk) → IsOpenOrClosed log (with_open which o None) s
    → LeftAt log which s.disk (spanned_at which s).files → AreBelow (spanned_at which s).files.last kept
    → AreBelow (spanned_at which s).first kept
    → StaysLeft (layout_at which log).format (layout_at which log).own kept s.disk new
    → LeftAt log which new (spanned_at which s).files
    × IsOpenOrClosed log (with_open which o None) (next_log which s (spanned_at which s).files new)
    × FailsWhole (Ties log) (Ties log) s (next_log which s (spanned_at which s).files new)

-- The disks that a close of both pipes goes through: `old`, `one`, `two`, `three`, `new`. The close finishes the active
-- files, Append's first. Then it renames the files kept for recycling, Append's first. Each of these four steps may
-- fail. Even then the queue that the step works on keeps its records.
pub record ClosesBoth {R E V : Type 0} (log : TwoQueues R E V) (p : Pipes) (old new : Disk) : Type 0 where
  pub one : Disk
  pub two : Disk
  pub three : Disk
  pub append : LeavesClosed log.append.format log.append.own log.append.paths p.append old one
  pub rewrite : LeavesClosed log.rewrite.format log.rewrite.own log.rewrite.paths p.rewrite one two
  pub append_names : StaysLeft log.append.format log.append.own p.append.recycled.items two three
  pub rewrite_names : StaysLeft log.rewrite.format log.rewrite.own p.rewrite.recycled.items three new

-- the log with `append` and `rewrite` as the files of its queues, and the same live ranges, on the disk `d`
abbrev pub closed_log : {R : Type 0} → LogOnDisk R → LogFiles R → LogFiles R → Disk → LogOnDisk R
closed_log s append rewrite d =
    record { append = in_span s.append append; rewrite = in_span s.rewrite rewrite; disk = d }

-- The closed log is on the disk `new`. The files of each queue are unchanged, or all its records are synced now.
-- - `moves`: the numbered files have changed only by quiet events: syncs, rotations, losses below the live range.
-- - `ends`: if a view (what an engine knows of the log) was true of the log, it still is. A prefix of the pending
--   batches may be synced now.
pub record LiesClosed {R E V : Type 0} (log : TwoQueues R E V) (s : LogOnDisk R) (new : Disk) : Type 0 where
  pub append : LogFiles R
  pub rewrite : LogFiles R
  pub append_is : IsOrIsSettled s.append.files append
  pub rewrite_is : IsOrIsSettled s.rewrite.files rewrite
  pub lies : IsOpenOrClosed log none_open (closed_log s append rewrite new)
  pub moves : (f : Files E V) → Ties log s f → (a : Moved f.append_from f.append)
      × (r : Moved f.rewrite_from f.rewrite) × Ties log (closed_log s append rewrite new)
      (record { append = a.queue; append_from = a.from; rewrite = r.queue; rewrite_from = r.from })
  pub ends : (v : View E V) (m : Map E V) (pending : List (Record E V)) → IsAt (Ties log s) v m pending
      → ViewEndsAt (Ties log (closed_log s append rewrite new)) v m pending

-- the closed log is on the disk `new`, and all records of both queues are synced
pub record LiesSettled {R E V : Type 0} (log : TwoQueues R E V) (s : LogOnDisk R) (new : Disk) : Type 0 where
  pub closed : LiesClosed log s new
  pub append_is : closed.append ≡ settled s.append.files
  pub rewrite_is : closed.rewrite ≡ settled s.rewrite.files

-- if both pipes of a log were closed, the closed log is on the disk, even if calls failed meanwhile
abbrev pub ClosedLogIsALog : {R E V : Type 0} → TwoQueues R E V → Type 0
ClosedLogIsALog {R} log = AreTwoQueues log → (p : Pipes) (s : LogOnDisk R) (new : Disk) → Run log p s
    → ClosesBoth log p s.disk new → LiesClosed log s new

-- the disks that a close of both pipes goes through if both active files are finished
pub record SettlesBoth {R E V : Type 0} (log : TwoQueues R E V) (p : Pipes) (old new : Disk) : Type 0 where
  pub one : Disk
  pub two : Disk
  pub three : Disk
  pub append : IsSettledBy log.append.format log.append.own log.append.paths p.append old one
  pub rewrite : IsSettledBy log.rewrite.format log.rewrite.own log.rewrite.paths p.rewrite one two
  pub append_names : StaysLeft log.append.format log.append.own p.append.recycled.items two three
  pub rewrite_names : StaysLeft log.rewrite.format log.rewrite.own p.rewrite.recycled.items three new

-- if both active files of a log were finished in a close, the closed log is on the disk, and all its records are synced
abbrev pub SettledLogIsALog : {R E V : Type 0} → TwoQueues R E V → Type 0
SettledLogIsALog {R} log = AreTwoQueues log → (p : Pipes) (s : LogOnDisk R) (new : Disk) → Run log p s
    → SettlesBoth log p s.disk new → LiesSettled log s new

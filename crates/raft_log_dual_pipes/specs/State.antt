-- A log on a disk: its two queues, the pipes that have their files open, and their numbered files. A numbered file is a
-- file as the model of the log sees it: its number and its records.
use Rattle.std.specs.Prelude.{◌≡◌, ℕ, ◌<◌, ◌≤◌, ◌⊎◌, List}
use Rattle.raft_log_fs.specs.Disk.{Disk}
use Rattle.raft_log_file_writer.specs.LogFormat.{Format}
use Rattle.raft_log_file_writer.specs.LogQueue.{LogFiles, IsLeftover, IsThere}
use Rattle.raft_log_active_file.specs.Standing.{Names, Stands}
use Rattle.raft_log_active_file.specs.Bridge.{IsFileQueue}
use Rattle.raft_log_active_file.specs.Rotation.{StandsWithRecords}
use Rattle.raft_log_file_pipe.specs.Files.{IsPipe}
use Rattle.raft_log_file_pipe.specs.declared.pipe_files.PipeFiles.{PipeFiles}
use Rattle.raft_log_machine_laws.specs.Model.{Files}
use Rattle.raft_log_machine_laws.specs.Calls.{Which}
use Rattle.raft_log_machine_laws.specs.Calls.Which.{InAppend, InRewrite}
use Rattle.raft_log_dual_pipes.specs.Queues.{QueueLayout, TwoQueues}

-- a queue: the number of the first file of its live range, and its files with their records
pub record Spanned (R : Type 0) : Type 0 where
  pub first : ℕ
  pub files : LogFiles R

-- a log on a disk: its two queues, and the disk that they are on
pub record LogOnDisk (R : Type 0) : Type 0 where
  pub append : Spanned R
  pub rewrite : Spanned R
  pub disk : Disk

-- one of the log's two queues
abbrev pub spanned_at : {R : Type 0} → Which → LogOnDisk R → Spanned R
spanned_at InAppend s = s.append
spanned_at InRewrite s = s.rewrite

-- the log on the disk `d`, with `q` as one of its queues
abbrev pub with_spanned : {R : Type 0} → Which → LogOnDisk R → Spanned R → Disk → LogOnDisk R
with_spanned InAppend s q d = record { append = q; rewrite = s.rewrite; disk = d }
with_spanned InRewrite s q d = record { append = s.append; rewrite = q; disk = d }

-- the files that the pipes of both queues have open
pub record Pipes : Type 0 where
  pub append : PipeFiles
  pub rewrite : PipeFiles

-- the files that the pipe of one queue has open
abbrev pub pipe_at : Which → Pipes → PipeFiles
pipe_at InAppend p = p.append
pipe_at InRewrite p = p.rewrite

-- the same pipes, except that the one of this queue has `files` open
abbrev pub with_pipe : Which → Pipes → PipeFiles → Pipes
with_pipe InAppend p files = record { append = files; rewrite = p.rewrite }
with_pipe InRewrite p files = record { append = p.append; rewrite = files }

-- The pipe runs over the queue on the disk `d`. The pipe lists the queue's files, and has the same first number of the
-- live range as the queue.
pub record RunsQueue {R : Type 0} (layout : QueueLayout R) (files : PipeFiles) (q : Spanned R)
    (d : Disk) : Type 0 where
  pub first : files.first_seq ≡ q.first
  pub pipe : IsPipe layout.format layout.own layout.paths d files q.files d

-- both pipes run over the queues of the log `s`, on its disk
pub record Run {R E V : Type 0} (log : TwoQueues R E V) (p : Pipes) (s : LogOnDisk R) : Type 0 where
  pub append : RunsQueue log.append p.append s.append s.disk
  pub rewrite : RunsQueue log.rewrite p.rewrite s.rewrite s.disk

-- the queue's files are on the disk as a stop left them
pub record IsStopped {R : Type 0} (layout : QueueLayout R) (q : LogFiles R) (d : Disk) : Type 0 where
  pub path : List ℕ
  pub id : ℕ
  pub N : Names
  pub stands : Stands layout.format layout.own d q path id (IsLeftover layout.format q) N d

-- the queue's last file holds its records, as a stop or a pipe left it (even a pipe that has failed)
abbrev pub HoldsQueue : {R : Type 0} → QueueLayout R → LogFiles R → Disk → Type 0
HoldsQueue layout q d = StandsWithRecords layout.format layout.own d q d ⊎ IsStopped layout q d

-- the last file of each queue holds its records, as a stop or a pipe left it (even a pipe that has failed)
pub record HoldsBoth {R E V : Type 0} (log : TwoQueues R E V) (s : LogOnDisk R) : Type 0 where
  pub append : HoldsQueue log.append s.append.files s.disk
  pub rewrite : HoldsQueue log.rewrite s.rewrite.files s.disk

-- each number from `first` to below `end` has a file on the disk
abbrev pub AreThere : {R : Type 0} → Format R → ℕ → ℕ → Disk → Type 0
AreThere F first end d = (m : ℕ) → first ≤ m → m < end → IsThere F m d

-- each number of the queue's live range, except the last one, has a file on the disk
abbrev pub HasSpan : {R : Type 0} → Format R → Spanned R → Disk → Type 0
HasSpan F q d = AreThere F q.first q.files.last d

-- `f` are the numbered files of the log's two queues on its disk
pub record Ties {R E V : Type 0} (log : TwoQueues R E V) (s : LogOnDisk R) (f : Files E V) : Type 0 where
  pub append : IsFileQueue log.says log.append.format s.append.files f.append_from s.append.first s.disk
      f.append
  pub rewrite : IsFileQueue log.says log.rewrite.format s.rewrite.files f.rewrite_from s.rewrite.first s.disk
      f.rewrite

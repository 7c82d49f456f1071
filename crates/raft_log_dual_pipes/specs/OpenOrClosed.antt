-- Each queue of a log by itself is in one of two states. Either its pipe runs. Or no pipe runs: it has failed, was
-- closed, or isn't open yet. Then the queue's files are on the disk, or none was created yet.
use Rattle.std.specs.Prelude.{◌≡◌, ℕ, ◌⊎◌, Option, Some, None, List}
use Rattle.raft_log_model_laws.specs.Item.{Record}
use Rattle.raft_log_fs.specs.Disk.{Disk}
use Rattle.raft_log_fs.specs.Image.{IsSound}
use Rattle.raft_log_file_writer.specs.LogQueue.{Past, LogFiles}
use Rattle.raft_log_active_file.specs.Beginning.{IsFresh}
use Rattle.raft_log_file_pipe.specs.declared.pipe_files.PipeFiles.{PipeFiles}
use Rattle.raft_log_model_laws.specs.Groups.{Map}
use Rattle.raft_log_machine_laws.specs.Model.{Files}
use Rattle.raft_log_machine_laws.specs.Calls.{Which}
use Rattle.raft_log_machine_laws.specs.Calls.Which.{InAppend, InRewrite}
use Rattle.raft_log_machine_laws.specs.Log.{IsLog, IsLogOf}
use Rattle.raft_log_dual_pipes.specs.Queues.{QueueLayout, TwoQueues, AreTwoQueues}
use Rattle.raft_log_dual_pipes.specs.State.{Spanned, LogOnDisk, Pipes, Run, RunsQueue, HoldsQueue, HoldsBoth, HasSpan, Ties}
use Rattle.raft_log_dual_pipes.specs.Crash.{readings_of, AllowsIn}
use Rattle.raft_log_dual_pipes.specs.Beginning.{begun_queue}
use Rattle.raft_log_dual_pipes.specs.Steps.{next_log}

-- No file of the queue was created yet, and the queue may begin on the disk `d`. `q` is the queue as it will begin:
-- with file 1, and no record.
pub record IsUnbegun {R : Type 0} (layout : QueueLayout R) (q : Spanned R) (d : Disk) : Type 0 where
  pub fresh : IsFresh layout.format layout.own d d
  pub is : (older : ℕ → Past R) × (header : List ℕ) × (room : ℕ) × (q ≡ begun_queue older header room)

-- The queue's files are on the disk, as a pipe or a stop left them, and each number of the live range has a file. Or no
-- file of the queue was created yet.
abbrev pub LiesQueue : {R : Type 0} → QueueLayout R → Spanned R → Disk → Type 0
LiesQueue layout q d = (HoldsQueue layout q.files d × HasSpan layout.format q d) ⊎ IsUnbegun layout q d

-- If `Some files`, the queue's pipe runs with these files. If `None`, no pipe runs, and the queue's files are on the
-- disk or not created yet.
abbrev pub RunsOrLies : {R : Type 0} → QueueLayout R → Option PipeFiles → Spanned R → Disk → Type 0
RunsOrLies layout (Some files) q d = RunsQueue layout files q d
RunsOrLies layout None q d = LiesQueue layout q d

-- for each queue, the files of its running pipe; `None` if its pipe has failed, was closed, or isn't open
pub record OpenPipes : Type 0 where
  pub append : Option PipeFiles
  pub rewrite : Option PipeFiles

-- no pipe runs
abbrev pub none_open : OpenPipes
none_open = record { append = None; rewrite = None }

-- both pipes run
abbrev pub both_open : Pipes → OpenPipes
both_open p = record { append = Some p.append; rewrite = Some p.rewrite }

-- `o`, but with `now` as the state of the pipe of this queue
abbrev pub with_open : Which → OpenPipes → Option PipeFiles → OpenPipes
with_open InAppend o now = record { append = now; rewrite = o.rewrite }
with_open InRewrite o now = record { append = o.append; rewrite = now }

-- For each queue, either its pipe runs with its files in `o`, or no pipe runs. If none runs, the queue's files are on
-- the disk or not created yet. Both queues are on the disk of `s`.
pub record IsOpenOrClosed {R E V : Type 0} (log : TwoQueues R E V) (o : OpenPipes) (s : LogOnDisk R) : Type 0 where
  pub append : RunsOrLies log.append o.append s.append s.disk
  pub rewrite : RunsOrLies log.rewrite o.rewrite s.rewrite s.disk

-- One queue now has files that satisfy `becomes`. Its pipe runs with the files in `now`; if `now` is `None`, no pipe
-- runs for it. The other queue is unchanged. `takes` says how the log's numbered files have changed.
abbrev pub LeavesQueue : {R E V : Type 0} → TwoQueues R E V → Which → OpenPipes → Option PipeFiles
    → LogOnDisk R → Disk → (LogFiles R → Type 0) → (LogOnDisk R → LogOnDisk R → Type 0) → Type 0
LeavesQueue {R} log which o now s new becomes takes = (files : LogFiles R) × becomes files
    × IsOpenOrClosed log (with_open which o now) (next_log which s files new)
    × takes s (next_log which s files new)

-- What holds for a log of two queues, of which each has a running pipe or only files on the disk (`IsOpenOrClosed`).
-- - `allowed`, `log_of`: its numbered files say what a recovery reads after a crash, and so give its contents.
-- - `running`: a log over which both pipes run is such a log.
-- - `held`: so is a log without running pipes, if each last file holds its records and all files of the live ranges
--   exist.
-- - `dropped`: so is a log of which all running pipes were dropped.
pub record LyingLogIsALog {R E V : Type 0} (log : TwoQueues R E V) : Type 0 where
  pub allowed : (o : OpenPipes) (s : LogOnDisk R) (f : Files E V) → IsSound s.disk → IsOpenOrClosed log o s
      → Ties log s f → AllowsIn log s f
  pub log_of : (o : OpenPipes) (s : LogOnDisk R) (m : Map E V) (pending : List (Record E V))
      → IsSound s.disk → IsOpenOrClosed log o s → IsLog (Ties log s) m pending
      → IsLogOf (readings_of log) s m pending
  pub running : (p : Pipes) (s : LogOnDisk R) → Run log p s → IsOpenOrClosed log (both_open p) s
  pub held : (s : LogOnDisk R) → HoldsBoth log s → HasSpan log.append.format s.append s.disk
      → HasSpan log.rewrite.format s.rewrite s.disk → IsOpenOrClosed log none_open s
  pub dropped : (o : OpenPipes) (s : LogOnDisk R) → IsOpenOrClosed log o s → IsOpenOrClosed log none_open s

-- `LyingLogIsALog` holds for a log of any two queues
abbrev pub LyingLogsAreLogs : {R E V : Type 0} → TwoQueues R E V → Type 0
LyingLogsAreLogs log = AreTwoQueues log → LyingLogIsALog log

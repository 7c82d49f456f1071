-- Closing both pipes of a log.
use Rattle.std.specs.Prelude.{◌≡◌, Result, reverse}
use Rattle.std.specs.Result.{result_and}
use Rattle.raft_log_fs.specs.Disk.{Disk}
use Rattle.raft_log_record_base.specs.declared.errors.Error.{Error}
use Rattle.raft_log_active_file.specs.QueueFiles.{log_paths}
use Rattle.raft_log_file_pipe.specs.Closing.{FinishesAs, FinishesOrNot, ReservesAll, greatest_reserved}
use Rattle.raft_log_dual_pipes.specs.Closing.{LiesClosed, LiesSettled}
use Rattle.raft_log_dual_pipes.specs.Pipes.{LogPipes, LogSense, OnePipe, RunsOn, State, queues}

-- If the pipes ran over a log, the closed log is on the disk `d`, and may be opened again. Some calls of the close may
-- have failed.
abbrev pub ClosesLog : LogPipes → Disk → Type 0
ClosesLog v d = (log : LogSense) (s : State) → RunsOn log v s → LiesClosed (queues log) s d

-- if the pipes ran over a log, the closed log is on the disk `d`, and all records of both queues are synced
abbrev pub ClosesSettled : LogPipes → Disk → Type 0
ClosesSettled v d = (log : LogSense) (s : State) → RunsOn log v s → LiesSettled (queues log) s d

-- the files that a pipe keeps for recycling got reserved names or failed to get them, from the newest file to the
-- oldest
abbrev pub NamesSpares : OnePipe → Disk → Disk → Type 0
NamesSpares pipe old new = ReservesAll (log_paths pipe.queue pipe.directories)
    (reverse pipe.files.recycled.items) (greatest_reserved pipe.files.recycled.items) old new

-- The calls of a close, in order. First it finishes the active files, Append's first: it truncates each after its
-- records and syncs it. If that fails, the close goes on. Then the files kept for recycling get reserved names or fail
-- to get them, Append's first.
pub record ClosesInOrder (v : LogPipes) (new : Disk) : Type 0 where
  pub one : Disk
  pub two : Disk
  pub three : Disk
  pub append : FinishesOrNot v.append.files.writer v.disk one
  pub rewrite : FinishesOrNot v.rewrite.files.writer one two
  pub append_names : NamesSpares v.append two three
  pub rewrite_names : NamesSpares v.rewrite three new

-- The calls of a close, and its result. If Append's active file wasn't finished, the result is why. Otherwise, if
-- Rewrite's wasn't finished, the result is why. Otherwise it is success.
pub record ClosesAs (v : LogPipes) (result : Result (Unit {0}) Error) (new : Disk) : Type 0 where
  pub one : Disk
  pub two : Disk
  pub three : Disk
  pub of_append : Result (Unit {0}) Error
  pub of_rewrite : Result (Unit {0}) Error
  pub append : FinishesAs v.append.files.writer of_append v.disk one
  pub rewrite : FinishesAs v.rewrite.files.writer of_rewrite one two
  pub append_names : NamesSpares v.append two three
  pub rewrite_names : NamesSpares v.rewrite three new
  pub is : result ≡ result_and of_append of_rewrite

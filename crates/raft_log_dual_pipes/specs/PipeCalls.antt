-- For an append and a rotation: the file system calls that the pipe makes, in order, and which of them failed. `v` are
-- the pipes before the operation, `w` after it.
use Rattle.std.specs.Prelude.{◌≡◌, ℕ, false, List}
use Rattle.raft_log_fs.specs.Disk.{Disk}
use Rattle.raft_log_record_base.specs.declared.errors.Error.{Error}
use Rattle.raft_log_record_base.specs.declared.pipe_log.FileBlockHandle.{FileBlockHandle}
use Rattle.raft_log_record_base.specs.declared.pipe_log.LogFileContext.{LogFileContext}
use Rattle.raft_log_file_format.specs.Header.{header_bytes}
use Rattle.raft_log_active_file.specs.declared.record.LogRecord.{LogRecord}
use Rattle.raft_log_file_pipe.specs.Appending.{AppendFails, AppendsAt}
use Rattle.raft_log_file_pipe.specs.Exits.{Rotates}
use Rattle.raft_log_file_pipe.specs.declared.pipe_files.PipeFiles.{PipeFiles}
use Rattle.raft_log_file_pipe.specs.declared.single_pipe.PipeSettings.{PipeSettings}
use Rattle.raft_log_machine_laws.specs.Calls.{Which}
use Rattle.raft_log_dual_pipes.specs.Queues.{QueueLayout}
use Rattle.raft_log_dual_pipes.specs.Pipes.{LogPipes, OnePipe, is_failed, layout_of, one_at}

-- What an operation does to the files of a pipe and to the disk. This depends on how and where the pipe's files are
-- written (`QueueLayout`), and on the pipe's settings.
abbrev pub PipeCall : Type 1
PipeCall = QueueLayout LogRecord → PipeSettings → PipeFiles → PipeFiles → Disk → Disk → Type 0

-- the operation did to the pipe of this queue, and to the disk, what `call` says
abbrev pub DoesToPipe : Which → PipeCall → LogPipes → LogPipes → Type 0
DoesToPipe which call v w = call (layout_of (one_at which v)) (one_at which v).settings
    (one_at which v).files (one_at which w).files v.disk w.disk

-- if no pipe had failed before, the operation did to the pipe of this queue, and to the disk, what `call` says
abbrev pub LeavesPipe : Which → PipeCall → LogPipes → LogPipes → Type 0
LeavesPipe which call v w = is_failed v ≡ false → DoesToPipe which call v w

-- the pipe has the same queue, directories and settings as before
pub record SameRules (before after : OnePipe) : Type 0 where
  pub queue : after.queue ≡ before.queue
  pub directories : after.directories ≡ before.directories
  pub settings : after.settings ≡ before.settings

-- the operation appended a record to this queue's pipe, at this location
abbrev pub PipeAppends : Which → (LogFileContext → List ℕ) → FileBlockHandle → LogPipes → LogPipes → Type 0
PipeAppends which signed block = DoesToPipe which (λ layout rules before after.
    AppendsAt layout.format layout.own layout.paths rules.new_files rules.queue signed before after block)

-- If no pipe had failed before, the operation failed to append a record to this queue's pipe, with this error. An `Io`
-- error has the kind that the file system returned for the write.
abbrev pub PipeFailsToAppend : Which → (LogFileContext → List ℕ) → Error → LogPipes → LogPipes → Type 0
PipeFailsToAppend which signed error = LeavesPipe which (λ layout rules before after.
    AppendFails layout.format layout.own layout.paths rules.new_files rules.queue signed before after error)

-- this queue's pipe rotated
abbrev pub PipeRotates : Which → LogPipes → LogPipes → Type 0
PipeRotates which = DoesToPipe which (λ layout rules before after.
    Rotates layout.format layout.own layout.paths (header_bytes rules.new_files.format) before after)

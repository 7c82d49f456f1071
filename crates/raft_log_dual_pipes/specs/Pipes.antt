-- The two pipes of a log, which write the files of its two queues. `RunsOn` says when both run over a log on a disk.
use Rattle.std.specs.Prelude.{◌≡◌, ℕ, ◌<◌, Bool, false, ◌||◌, List, length}
use Rattle.raft_log_model_laws.specs.Item.{Record}
use Rattle.raft_log_fs.specs.Disk.{Disk}
use Rattle.raft_log_fs.specs.Exits.{Arms}
use Rattle.raft_log_fs.specs.declared.handle.Fault.{Fault}
use Rattle.raft_log_record_base.specs.declared.pipe_log.LogQueue.{LogQueue}
use Rattle.raft_log_record_base.specs.declared.pipe_log.LogQueue.TheVariants.{Append, Rewrite}
use Rattle.raft_log_file_format.specs.Header.{header_bytes}
use Rattle.raft_log_active_file.specs.declared.record.LogRecord.{LogRecord}
use Rattle.raft_log_active_file.specs.Paths.{directory_at}
use Rattle.raft_log_file_pipe.specs.declared.pipe_files.PipeFiles.{PipeFiles}
use Rattle.raft_log_file_pipe.specs.declared.single_pipe.PipeSettings.{PipeSettings}
use Rattle.raft_log_file_pipe.specs.Files.{Listed}
use Rattle.raft_log_machine_laws.specs.Calls.{Which}
use Rattle.raft_log_machine_laws.specs.Calls.Which.{InAppend, InRewrite}
use Rattle.raft_log_dual_pipes.specs.Queues.{QueueLayout, TwoQueues}
use Rattle.raft_log_dual_pipes.specs.State.{LogOnDisk, Pipes, pipe_at, Run}
use Rattle.raft_log_dual_pipes.specs.Own.{log_layout, log_queues}

-- one of a log's pipes: its queue, the directories of its files, its settings, its files, and whether it has failed
pub record OnePipe : Type 0 where
  pub queue : LogQueue
  pub directories : List (List ℕ)
  pub settings : PipeSettings
  pub files : PipeFiles
  pub failed : Bool

-- how a pipe's files are written, and where they are
abbrev pub layout_of : OnePipe → QueueLayout LogRecord
layout_of pipe = log_layout pipe.queue pipe.directories

-- both pipes of a log, and the disk on which they write
pub record LogPipes : Type 0 where
  pub append : OnePipe
  pub rewrite : OnePipe
  pub disk : Disk

-- the pipe of this queue
abbrev pub one_at : Which → LogPipes → OnePipe
one_at InAppend v = v.append
one_at InRewrite v = v.rewrite

-- the main directory of the log: the first directory of Append's files
abbrev pub main_directory : LogPipes → List ℕ
main_directory v = directory_at v.append.directories 0

-- the queue, as the machine's laws name it (`Which`)
abbrev pub which_of : LogQueue → Which
which_of Append = InAppend
which_of Rewrite = InRewrite

-- the queue, as the code names it (`LogQueue`)
abbrev pub queue_of : Which → LogQueue
queue_of InAppend = Append
queue_of InRewrite = Rewrite

-- the files that both pipes have open
abbrev pub files_of : LogPipes → Pipes
files_of v = record { append = v.append.files; rewrite = v.rewrite.files }

-- the header that the next file of a queue will get
abbrev pub header_at : Which → LogPipes → List ℕ
header_at which v = header_bytes (one_at which v).settings.new_files.format

-- the files of a queue that its pipe keeps for recycling
abbrev pub spares_at : Which → LogPipes → List Listed
spares_at which v = (pipe_at which (files_of v)).recycled.items

-- whether one of the pipes has failed: a file call failed, and what it had done couldn't be undone
abbrev pub is_failed : LogPipes → Bool
is_failed v = v.append.failed || v.rewrite.failed

-- A fault was armed in the file system. Only the disk may have changed: the fault may mark a byte of a file as
-- unreadable. The pipes are unchanged.
pub record ArmsPipes (fault : Fault) (v w : LogPipes) : Type 0 where
  pub disk : Arms fault v.disk w.disk
  pub others : w ≡ record v { disk = w.disk }

-- a record in the model; entries and values of keys are lists of bytes
abbrev pub LogRecordValue : Type 0
LogRecordValue = Record (List ℕ) (List ℕ)

-- how a log is read: the model's record for each record of a file (`says`), and the directories of each queue's files
pub record LogSense : Type 0 where
  pub says : LogRecord → LogRecordValue
  pub append : List (List ℕ)
  pub rewrite : List (List ℕ)

-- the two queues of a log that is read as `log` says
abbrev pub queues : LogSense → TwoQueues LogRecord (List ℕ) (List ℕ)
queues log = log_queues log.says log.append log.rewrite

-- a log on a disk: its queues with the records of their files
abbrev pub State : Type 0
State = LogOnDisk LogRecord

-- the pipe is of this queue, has its files in these directories (at least one), and hasn't failed
pub record IsPipeOf (queue : LogQueue) (directories : List (List ℕ)) (pipe : OnePipe) : Type 0 where
  pub named : pipe.queue ≡ queue
  pub told : pipe.settings.queue ≡ queue
  pub lies : pipe.directories ≡ directories
  pub some : 0 < length directories
  pub alive : pipe.failed ≡ false

-- Both pipes of `v` run over the log `s`, and neither has failed. The log is on the disk of `v`, and `log` says how it
-- is read.
pub record RunsOn (log : LogSense) (v : LogPipes) (s : State) : Type 0 where
  pub append : IsPipeOf Append log.append v.append
  pub rewrite : IsPipeOf Rewrite log.rewrite v.rewrite
  pub disk : s.disk ≡ v.disk
  pub run : Run (queues log) (files_of v) s

-- Opening both pipes of a log, each over the files that a scan found for its queue (`FoundPipe`).
use Rattle.std.specs.Prelude.{◌≡◌, ◌⊎◌, List, [], ℕ, map, false}
use Rattle.std.specs.String.{string_bytes}
use Rattle.raft_log_fs.specs.Disk.{Disk}
use Rattle.raft_log_model_laws.specs.Groups.{Map}
use Rattle.raft_log_record_base.specs.declared.errors.Error.{Error}
use Rattle.raft_log_record_base.specs.declared.pipe_log.LogQueue.{LogQueue}
use Rattle.raft_log_record_base.specs.declared.pipe_log.LogQueue.TheVariants.{Append, Rewrite}
use Rattle.raft_log_active_file.specs.declared.record.LogRecord.{LogRecord}
use Rattle.raft_log_file_pipe.specs.Opening.{OpensPipe, OpenLeaves}
use Rattle.raft_log_file_pipe.specs.declared.pipe_files.PipeFiles.{PipeFiles}
use Rattle.raft_log_machine_laws.specs.Log.{IsLog}
use Rattle.raft_log_dual_pipes.specs.Own.{log_layout}
use Rattle.raft_log_dual_pipes.specs.Queues.{QueueLayout}
use Rattle.raft_log_dual_pipes.specs.State.{Ties}
use Rattle.raft_log_dual_pipes.specs.OpenOrClosed.{none_open}
use Rattle.raft_log_dual_pipes.specs.Reopening.{GoesOnFound, IsFoundOf, ReadsBothAgain}
use Rattle.raft_log_dual_pipes.specs.OnDisk.{LogLiesOn, IsDurableAs}
use Rattle.raft_log_dual_pipes.specs.Pipes.{LogPipes, LogSense, OnePipe, RunsOn, State, queues}
use Rattle.raft_log_dual_pipes.specs.declared.opening.FoundPipe.{FoundPipe}

-- how the files of the queue that was found are written, and where they are
abbrev pub layout_found : FoundPipe → QueueLayout LogRecord
layout_found p = log_layout p.layout.queue (map string_bytes p.layout.paths.items)

-- the pipe was opened over what was found of its queue
abbrev pub OpensFound : FoundPipe → PipeFiles → Disk → Disk → Type 0
OpensFound p files old new = OpensPipe (layout_found p).format (layout_found p).own (layout_found p).paths
    p.settings.new_files p.found files old new

-- opening the pipe over what was found of its queue failed with this error
abbrev pub FailsToOpenFound : FoundPipe → Error → Disk → Disk → Type 0
FailsToOpenFound p error old new = OpenLeaves (layout_found p).format (layout_found p).own (layout_found p).paths
    p.settings.new_files p.found error old new

-- what was found is of this queue, in these directories
pub record IsFoundAs (queue : LogQueue) (directories : List (List ℕ)) (p : FoundPipe) : Type 0 where
  pub named : p.layout.queue ≡ queue
  pub told : p.settings.queue ≡ queue
  pub lies : map string_bytes p.layout.paths.items ≡ directories

-- A log is at rest on the disk `d`, as a stop or a close left it. Its contents are the map `m`. `append` and `rewrite`
-- are what a scan found of each queue.
pub record RestsAsFound (log : LogSense) (m : Map (List ℕ) (List ℕ)) (append rewrite : FoundPipe)
    (d : Disk) : Type 0 where
  pub append_as : IsFoundAs Append log.append append
  pub rewrite_as : IsFoundAs Rewrite log.rewrite rewrite
  pub rests : IsDurableAs (queues log) d m
  pub append_found : IsFoundOf (queues log).append append.found rests.state.append d
  pub rewrite_found : IsFoundOf (queues log).rewrite rewrite.found rests.state.rewrite d

-- Both pipes of `v` run over a log that was read again from the log `was`. Its contents are the map `m`, and all of it
-- is synced.
pub record RunsAsFound (log : LogSense) (m : Map (List ℕ) (List ℕ)) (was : State) (v : LogPipes) : Type 0 where
  pub state : State
  pub runs : RunsOn log v state
  pub append_synced : state.append.files.pending ≡ []
  pub rewrite_synced : state.rewrite.files.pending ≡ []
  pub append_goes_on : GoesOnFound v.append.files was.append.files state.append.files
  pub rewrite_goes_on : GoesOnFound v.rewrite.files was.rewrite.files state.rewrite.files
  pub reads : ReadsBothAgain (Ties (queues log)) was state
  pub holds : IsLog (Ties (queues log) state) m []

-- the pipe has the queue, directories and settings of what was found, and hasn't failed
pub record IsOpenedOf (p : FoundPipe) (o : OnePipe) : Type 0 where
  pub queue : o.queue ≡ p.layout.queue
  pub directories : o.directories ≡ map string_bytes p.layout.paths.items
  pub settings : o.settings ≡ p.settings
  pub alive : o.failed ≡ false

-- Both pipes of a log were opened, Append's first. If a log at rest was found, the pipes run over this log, as it was
-- read again.
pub record OpensLog (append rewrite : FoundPipe) (old : Disk) (v : LogPipes) : Type 0 where
  pub mid : Disk
  pub append_is : IsOpenedOf append v.append
  pub rewrite_is : IsOpenedOf rewrite v.rewrite
  pub append_opens : OpensFound append v.append.files old mid
  pub rewrite_opens : OpensFound rewrite v.rewrite.files mid v.disk
  pub log : (log : LogSense) (m : Map (List ℕ) (List ℕ)) → (h : RestsAsFound log m append rewrite old)
      → RunsAsFound log m h.rests.state v

-- Opening a log failed with this error: Append's pipe wasn't opened, or Append's was and Rewrite's wasn't. If a log at
-- rest was found, it is still on the disk, with the same contents.
pub record FailsToOpenLog (append rewrite : FoundPipe) (error : Error) (old new : Disk) : Type 0 where
  pub call : FailsToOpenFound append error old new ⊎ ((files : PipeFiles) × (mid : Disk)
      × OpensFound append files old mid × FailsToOpenFound rewrite error mid new)
  pub lies : (log : LogSense) (m : Map (List ℕ) (List ℕ)) → RestsAsFound log m append rewrite old
      → LogLiesOn (queues log) none_open new m []

-- What holds for a log on a disk, through calls, crashes, opens and closes. Its contents are a map: for each group, its
-- entries by index and its values by key.
use Rattle.std.specs.Prelude.{◌≡◌, ℕ, ◌≤◌, Some, None, List, [], length, take}
use Rattle.raft_log_model_laws.specs.Item.{Record}
use Rattle.raft_log_model_laws.specs.Groups.{Map, taken}
use Rattle.raft_log_machine_laws.specs.Fresh.{nothing_stands}
use Rattle.raft_log_fs.specs.Disk.{Disk}
use Rattle.raft_log_fs.specs.Image.{IsImage, IsSound}
use Rattle.raft_log_file_writer.specs.LogQueue.{NoChanceInLast}
use Rattle.raft_log_record_base.specs.declared.errors.Error.{Error}
use Rattle.raft_log_active_file.specs.Beginning.{IsFresh}
use Rattle.raft_log_file_pipe.specs.Opening.{OpensPipe, OpenLeaves}
use Rattle.raft_log_file_pipe.specs.declared.found_files.FoundFiles.{FoundFiles}
use Rattle.raft_log_file_pipe.specs.declared.new_files.NewFiles.{NewFiles}
use Rattle.raft_log_file_pipe.specs.declared.pipe_files.PipeFiles.{PipeFiles}
use Rattle.raft_log_machine_laws.specs.Log.{View, IsLog, IsLogOf}
use Rattle.raft_log_dual_pipes.specs.Queues.{TwoQueues, AreTwoQueues}
use Rattle.raft_log_dual_pipes.specs.State.{LogOnDisk, Pipes, Run, Ties}
use Rattle.raft_log_dual_pipes.specs.Crash.{readings_of}
use Rattle.raft_log_dual_pipes.specs.OpenOrClosed.{OpenPipes, none_open, both_open, IsOpenOrClosed}
use Rattle.raft_log_dual_pipes.specs.Reopening.{GoesOnFound, ReadsBothAgain, RestBoth, IsFoundOf}
use Rattle.raft_log_dual_pipes.specs.Writing.{IsAtOn}

-- Some log is on the disk `d`. Of its pipes, those in `o` run. Its synced contents are the map `m`. The batches in
-- `pending` were written after that, and aren't synced yet.
pub record LogLiesOn {R E V : Type 0} (log : TwoQueues R E V) (o : OpenPipes) (d : Disk) (m : Map E V)
    (pending : List (Record E V)) : Type 0 where
  pub state : LogOnDisk R
  pub disk : state.disk ≡ d
  pub stands : IsOpenOrClosed log o state
  pub holds : IsLog (Ties log state) m pending

-- Some log is on the disk `d` at rest, as a stop leaves it. Its contents are the map `m`, and all of it is synced.
pub record IsDurableAs {R E V : Type 0} (log : TwoQueues R E V) (d : Disk) (m : Map E V) : Type 0 where
  pub state : LogOnDisk R
  pub disk : state.disk ≡ d
  pub rests : RestBoth log state
  pub append_synced : state.append.files.pending ≡ []
  pub rewrite_synced : state.rewrite.files.pending ≡ []
  pub holds : IsLog (Ties log state) m []

-- How a log continues on disks.
-- - `nothing`: a disk without log files has an empty log at rest.
-- - `none_found`: if an open finds no files on such a disk, it has found all there is of both queues.
-- - `engine`, `rest`: a log that an engine has open is on the disk (`LogLiesOn`), and so is a log at rest.
-- - `means`: on a sound disk, what a recovery reads after a crash agrees with the contents and the pending batches.
-- - `crashes`: a crash without a CRC collision leaves a log at rest. Its contents are the map after a prefix of the
--   pending batches.
pub record LogsGoOn {R E V : Type 0} (log : TwoQueues R E V) : Type 0 where
  pub nothing : (d : Disk) → IsFresh log.append.format log.append.own d d
      → IsFresh log.rewrite.format log.rewrite.own d d → IsDurableAs log d nothing_stands
  pub none_found : (d : Disk) (append : IsFresh log.append.format log.append.own d d)
      → (rewrite : IsFresh log.rewrite.format log.rewrite.own d d)
      → (found : FoundFiles) → found.files.items ≡ [] → found.recycled.items ≡ []
      → IsFoundOf log.append found (nothing d append rewrite).state.append d
      × IsFoundOf log.rewrite found (nothing d append rewrite).state.rewrite d
  pub engine : (p : Pipes) (d : Disk) (v : View E V) (m : Map E V) (pending : List (Record E V))
      → IsAtOn log p d v m pending → LogLiesOn log (both_open p) d m pending
  pub rest : (d : Disk) (m : Map E V) → IsDurableAs log d m → LogLiesOn log none_open d m []
  pub means : (o : OpenPipes) (d : Disk) (m : Map E V) (pending : List (Record E V))
      → (h : LogLiesOn log o d m pending) → IsSound d → IsLogOf (readings_of log) h.state m pending
  pub crashes : (o : OpenPipes) (d image : Disk) (m : Map E V) (pending : List (Record E V))
      → (h : LogLiesOn log o d m pending) → IsImage d image
      → NoChanceInLast log.append.format h.state.append.files d image
      → NoChanceInLast log.rewrite.format h.state.rewrite.files d image
      → (k : ℕ) × (k ≤ length pending) × IsDurableAs log image (taken m (take k pending))

-- `LogsGoOn` holds for a log of any two queues
abbrev pub LogsGoOnDisks : {R E V : Type 0} → TwoQueues R E V → Type 0
LogsGoOnDisks log = AreTwoQueues log → LogsGoOn log

-- Both pipes run over some log on the disk `d`, which was read again from the log `was`. Its contents are the map `m`,
-- and all of it is synced.
pub record LogOpenedOn {R E V : Type 0} (log : TwoQueues R E V) (p : Pipes) (was : LogOnDisk R) (d : Disk)
    (m : Map E V) : Type 0 where
  pub state : LogOnDisk R
  pub disk : state.disk ≡ d
  pub run : Run log p state
  pub append_synced : state.append.files.pending ≡ []
  pub rewrite_synced : state.rewrite.files.pending ≡ []
  pub append_goes_on : GoesOnFound p.append was.append.files state.append.files
  pub rewrite_goes_on : GoesOnFound p.rewrite was.rewrite.files state.rewrite.files
  pub reads : ReadsBothAgain (Ties log) was state
  pub holds : IsLog (Ties log state) m []

-- Both pipes of a log at rest are opened, Append's first, over what was found of its queues.
-- - `first_refused`, `second_refused`: if either open fails, the log is still on the disk, with the same contents.
-- - `answered`: if both opens succeed, the pipes run over the log that was read again.
pub record OpensBoth {R E V : Type 0} (log : TwoQueues R E V) (d : Disk) (m : Map E V)
    (h : IsDurableAs log d m) (append rewrite : FoundFiles) (begin next : NewFiles) : Type 0 where
  pub first_refused : (error : Error) (mid : Disk)
      → OpenLeaves log.append.format log.append.own log.append.paths begin append error d mid
      → LogLiesOn log none_open mid m []
  pub second_refused : (one : PipeFiles) (error : Error) (mid new : Disk) → IsSound mid
      → OpensPipe log.append.format log.append.own log.append.paths begin append one d mid
      → OpenLeaves log.rewrite.format log.rewrite.own log.rewrite.paths next rewrite error mid new
      → LogLiesOn log (record { append = Some one; rewrite = None }) new m []
  pub answered : (one other : PipeFiles) (mid new : Disk) → IsSound mid
      → OpensPipe log.append.format log.append.own log.append.paths begin append one d mid
      → OpensPipe log.rewrite.format log.rewrite.own log.rewrite.paths next rewrite other mid new
      → LogOpenedOn log (record { append = one; rewrite = other }) h.state new m

-- `OpensBoth` holds for each log at rest on a sound disk, over what was found of its queues
abbrev pub RestingLogsOpen : {R E V : Type 0} → TwoQueues R E V → Type 0
RestingLogsOpen {R} {E} {V} log = AreTwoQueues log → (d : Disk) (m : Map E V) (h : IsDurableAs log d m)
    → IsSound d → (append rewrite : FoundFiles) (begin next : NewFiles)
    → IsFoundOf log.append append h.state.append d → IsFoundOf log.rewrite rewrite h.state.rewrite d
    → OpensBoth log d m h append rewrite begin next

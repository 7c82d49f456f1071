-- What a sync, a rotation and a purge of one queue leave, if both pipes run: the log and its numbered files. A numbered
-- file is a file as the model sees it.
use Rattle.std.specs.Prelude.{◌≡◌, ℕ, List}
use Rattle.raft_log_fs.specs.Disk.{Disk}
use Rattle.raft_log_fs.specs.Image.{IsSound}
use Rattle.raft_log_file_writer.specs.LogQueue.{LogFiles}
use Rattle.raft_log_record_base.specs.declared.errors.Error.{Error}
use Rattle.raft_log_record_base.specs.declared.errors.Error.TheVariants as errors
use Rattle.raft_log_file_format.specs.declared.header.LogFileFormat.{LogFileFormat}
use Rattle.raft_log_active_file.specs.Queue.{synced}
use Rattle.raft_log_file_pipe.specs.Exits.{IsTurned, Rotates, RotationLeaves, SyncsPipe}
use Rattle.raft_log_file_pipe.specs.Purging.{IsRaised, Purges, PurgeLeaves}
use Rattle.raft_log_file_pipe.specs.declared.pipe_files.PipeFiles.{PipeFiles}
use Rattle.raft_log_machine_laws.specs.Model.{Files}
use Rattle.raft_log_machine_laws.specs.Calls.{Which, MovedIn, Raises, Settles, Syncs, put}
use Rattle.raft_log_dual_pipes.specs.Queues.{TwoQueues, AreTwoQueues, layout_at}
use Rattle.raft_log_dual_pipes.specs.State.{LogOnDisk, spanned_at, with_spanned, Pipes, pipe_at, with_pipe, Run, HoldsBoth, Ties}
use Rattle.raft_log_dual_pipes.specs.Crash.{AllowsIn}
use Rattle.raft_log_dual_pipes.specs.Turning.{GoesOnInNext, IsOrGoesOn}
use Rattle.raft_log_dual_pipes.specs.Steps.{next_log}

-- if a sync succeeds, both pipes still run, and all records of the queue are synced
abbrev pub SyncIsAStep : {R E V : Type 0} → TwoQueues R E V → Type 0
SyncIsAStep {R} log = AreTwoQueues log → (which : Which) (p : Pipes) (s : LogOnDisk R) → Run log p s
    → (new : Disk)
    → SyncsPipe (layout_at which log).format (layout_at which log).own (layout_at which log).paths
    (pipe_at which p) s.disk new
    → Run log p (next_log which s (synced (spanned_at which s).files) new)
    × Syncs (Ties log) which s (next_log which s (synced (spanned_at which s).files) new)

-- if a rotation succeeds, both pipes still run, and all that was written to the queue before is synced
abbrev pub RotationIsAStep : {R E V : Type 0} → TwoQueues R E V → Type 0
RotationIsAStep {R} log = AreTwoQueues log → (which : Which) (p : Pipes) (s : LogOnDisk R) → Run log p s
    → (header : List ℕ) (format : LogFileFormat) (after : PipeFiles) (new : Disk)
    → Rotates (layout_at which log).format (layout_at which log).own (layout_at which log).paths header
    (pipe_at which p) after s.disk new
    → IsTurned format (pipe_at which p) after
    → (files : LogFiles R)
    × GoesOnInNext header (pipe_at which p).recycled.items s.disk (spanned_at which s).files files
    × Run log (with_pipe which p after) (next_log which s files new)
    × Settles (Ties log) which s (next_log which s files new)

-- The pipe failed between the states `s` and `t`. `f` are the numbered files before, for which `ties s f` holds. Quiet
-- events may have changed these files: syncs, rotations, losses of files below the live range. `allows` holds for `t`
-- and the changed files.
abbrev pub FailsMoved : {S E V : Type 0} → (S → Files E V → Type 0) → (S → Files E V → Type 0) → Which → S → S
    → Type 0
FailsMoved {S} {E} {V} ties allows which s t =
    (f : Files E V) → ties s f → (a : MovedIn which f) × allows t (put which f a.from a.queue)

-- What a failed rotation leaves.
-- - `Memory`, `NumberRange`: the same log on the same disk, and both pipes still run.
-- - `Failed`: the pipe has failed, and the queue may have rotated or not. The last file of each queue holds its
--   records.
abbrev pub NotRotated : {R E V : Type 0} → TwoQueues R E V → Which → Pipes → LogOnDisk R → List ℕ → PipeFiles
    → Error → Disk → Type 0
NotRotated log which p s header after errors.Memory new =
    (new ≡ s.disk) × Run log (with_pipe which p after) s
NotRotated log which p s header after errors.NumberRange new =
    (new ≡ s.disk) × Run log (with_pipe which p after) s
NotRotated {R} log which p s header after errors.Failed new = (files : LogFiles R)
    × IsOrGoesOn header (pipe_at which p).recycled.items s.disk (spanned_at which s).files files
    × HoldsBoth log (next_log which s files new)
    × FailsMoved (Ties log) (AllowsIn log) which s (next_log which s files new)
NotRotated log which p s header after _ new = ⊥

-- a failed rotation leaves what `NotRotated` says for its error
abbrev pub RefusedRotationIsAStep : {R E V : Type 0} → TwoQueues R E V → Type 0
RefusedRotationIsAStep {R} log = AreTwoQueues log → (which : Which) (p : Pipes) (s : LogOnDisk R)
    → Run log p s → (header : List ℕ) (after : PipeFiles) (error : Error) (new : Disk) → IsSound new
    → RotationLeaves (layout_at which log).format (layout_at which log).own (layout_at which log).paths header
    (pipe_at which p) after error s.disk new
    → NotRotated log which p s header after error new

-- the log on the disk `d`, in which the live range of one queue begins at `first` now
abbrev pub raised_log : {R : Type 0} → Which → LogOnDisk R → ℕ → Disk → LogOnDisk R
raised_log which s first d =
    with_spanned which s (record { first = first; files = (spanned_at which s).files }) d

-- if a purge succeeds, both pipes still run, and the files below `seq` have left the live range
abbrev pub PurgeIsAStep : {R E V : Type 0} → TwoQueues R E V → Type 0
PurgeIsAStep {R} log = AreTwoQueues log → (which : Which) (p : Pipes) (s : LogOnDisk R) → Run log p s
    → (capacity seq : ℕ) (after : PipeFiles) (new : Disk)
    → Purges (layout_at which log).format (layout_at which log).own (layout_at which log).paths capacity seq
    (pipe_at which p) after s.disk new
    → IsRaised capacity seq (pipe_at which p) after
    → Run log (with_pipe which p after) (raised_log which s seq new)
    × Raises (Ties log) (Ties log) which seq s (raised_log which s seq new)

-- What a failed purge leaves.
-- - `Memory`, `Other`, `NumberRange`: the same log on the same disk, and both pipes still run.
-- - `Failed`: the pipe has failed, and the files below `seq` have left the live range all the same. The last file of
--   each queue holds its records.
abbrev pub NotPurged : {R E V : Type 0} → TwoQueues R E V → Which → Pipes → LogOnDisk R → ℕ → PipeFiles
    → Error → Disk → Type 0
NotPurged log which p s seq after errors.Memory new = (new ≡ s.disk) × Run log (with_pipe which p after) s
NotPurged log which p s seq after (errors.Other fault) new =
    (new ≡ s.disk) × Run log (with_pipe which p after) s
NotPurged log which p s seq after errors.NumberRange new =
    (new ≡ s.disk) × Run log (with_pipe which p after) s
NotPurged log which p s seq after errors.Failed new = HoldsBoth log (raised_log which s seq new)
    × Raises (Ties log) (AllowsIn log) which seq s (raised_log which s seq new)
NotPurged log which p s seq after _ new = ⊥

-- a failed purge leaves what `NotPurged` says for its error
abbrev pub RefusedPurgeIsAStep : {R E V : Type 0} → TwoQueues R E V → Type 0
RefusedPurgeIsAStep {R} log = AreTwoQueues log → (which : Which) (p : Pipes) (s : LogOnDisk R)
    → Run log p s → (capacity seq : ℕ) (after : PipeFiles) (error : Error) (new : Disk) → IsSound new
    → PurgeLeaves (layout_at which log).format (layout_at which log).own (layout_at which log).paths capacity
    seq (pipe_at which p) after error s.disk new
    → NotPurged log which p s seq after error new

-- What each call of a running pipe leaves, whether it succeeds or fails. The other pipe may be in any state: it may
-- run, may have failed, or may not be open. Below, `which` is the queue of the call. `before` and `after` are the files
-- of this queue's pipe. `o` has the state of the other pipe. `s` is the log before the call, `new` the disk after it.
use Rattle.std.specs.Prelude.{◌≡◌, ℕ, ◌⊎◌, Option, Some, None, List}
use Rattle.raft_log_model_laws.specs.Item.{Record}
use Rattle.raft_log_fs.specs.Disk.{Disk}
use Rattle.raft_log_record_base.specs.declared.errors.Error.{Error}
use Rattle.raft_log_record_base.specs.declared.errors.Error.TheVariants as errors
use Rattle.raft_log_record_base.specs.declared.pipe_log.LogQueue.{LogQueue}
use Rattle.raft_log_record_base.specs.declared.pipe_log.FileBlockHandle.{FileBlockHandle}
use Rattle.raft_log_record_base.specs.declared.pipe_log.LogFileContext.{LogFileContext}
use Rattle.raft_log_file_format.specs.Header.{header_bytes}
use Rattle.raft_log_file_format.specs.declared.header.LogFileFormat.{LogFileFormat}
use Rattle.raft_log_active_file.specs.Queue.{synced}
use Rattle.raft_log_file_pipe.specs.Appending.{AppendsAt, AppendFails}
use Rattle.raft_log_file_pipe.specs.Exits.{IsTurned, Rotates, RotationLeaves, SyncsPipe, FailsToSyncPipe}
use Rattle.raft_log_file_pipe.specs.Purging.{IsRaised, Purges, PurgeLeaves}
use Rattle.raft_log_file_pipe.specs.declared.pipe_files.PipeFiles.{PipeFiles}
use Rattle.raft_log_file_pipe.specs.declared.new_files.NewFiles.{NewFiles}
use Rattle.raft_log_machine_laws.specs.Calls.{Which, Appends, CutsBack, LeavesOut, MayAppend, Syncs, Settles, FailsWhole, Raises}
use Rattle.raft_log_dual_pipes.specs.Queues.{TwoQueues, AreTwoQueues, layout_at, SaysRecord}
use Rattle.raft_log_dual_pipes.specs.State.{LogOnDisk, spanned_at, Ties}
use Rattle.raft_log_dual_pipes.specs.Turning.{GoesOnInNext, IsOrGoesOn, HasTaken, IsCutBack}
use Rattle.raft_log_dual_pipes.specs.Syncing.{FailsMoved, raised_log}
use Rattle.raft_log_dual_pipes.specs.OpenOrClosed.{OpenPipes, with_open, IsOpenOrClosed, LeavesQueue}

-- If a running pipe writes a record, it still runs, whatever the state of the other queue. It may have rotated before
-- the write. The numbered files get the record in the file of its location `block`.
abbrev pub AppendsBeside : {R E V : Type 0} → TwoQueues R E V → Type 0
AppendsBeside {R} {E} {V} log = AreTwoQueues log → (which : Which) (o : OpenPipes) (before : PipeFiles)
    (s : LogOnDisk R) → IsOpenOrClosed log (with_open which o (Some before)) s
    → (begin : NewFiles) (queue : LogQueue) (signed : LogFileContext → List ℕ) (y : Record E V)
    → SaysRecord log.says (layout_at which log) queue signed y
    → (after : PipeFiles) (block : FileBlockHandle) (new : Disk)
    → AppendsAt (layout_at which log).format (layout_at which log).own (layout_at which log).paths begin
    queue signed before after block s.disk new
    → after.first_seq ≡ before.first_seq
    → LeavesQueue log which o (Some after) s new
    (HasTaken (header_bytes begin.format) before.recycled.items s.disk (spanned_at which s).files)
    (Appends (Ties log) which y block.id.seq)

-- What a failed append leaves.
-- - `Io`, `TryAgain`: the part of the record that was written was truncated away, and all records before it are synced.
-- - `NumberRange`, `Memory`: no record was added.
-- - `Failed`: the pipe has failed, and the new record may be there or not.
abbrev pub LeavesRefused : {R E V : Type 0} → TwoQueues R E V → Which → OpenPipes → PipeFiles → LogOnDisk R
    → List ℕ → Record E V → PipeFiles → Error → Disk → Type 0
LeavesRefused log which o before s header y after (errors.Io kind) new =
    LeavesQueue log which o (Some after) s new
    (IsCutBack header before.recycled.items s.disk (spanned_at which s).files) (CutsBack (Ties log) which)
LeavesRefused log which o before s header y after (errors.TryAgain text) new =
    LeavesQueue log which o (Some after) s new
    (IsCutBack header before.recycled.items s.disk (spanned_at which s).files) (CutsBack (Ties log) which)
LeavesRefused log which o before s header y after errors.NumberRange new =
    LeavesQueue log which o (Some after) s new
    (λ files. (files ≡ (spanned_at which s).files)
    ⊎ IsCutBack header before.recycled.items s.disk (spanned_at which s).files files)
    (LeavesOut (Ties log) which)
LeavesRefused log which o before s header y after errors.Memory new =
    LeavesQueue log which o (Some after) s new
    (λ files. (files ≡ (spanned_at which s).files)
    ⊎ IsCutBack header before.recycled.items s.disk (spanned_at which s).files files)
    (LeavesOut (Ties log) which)
LeavesRefused log which o before s header y after errors.Failed new =
    LeavesQueue log which o None s new
    (λ files. IsOrGoesOn header before.recycled.items s.disk (spanned_at which s).files files
    ⊎ (IsCutBack header before.recycled.items s.disk (spanned_at which s).files files
    ⊎ HasTaken header before.recycled.items s.disk (spanned_at which s).files files))
    (MayAppend (Ties log) (Ties log) which y)
LeavesRefused log which o before s header y after _ new = ⊥

-- a failed append leaves what `LeavesRefused` says for its error, whatever the state of the other queue
abbrev pub FailsToAppendBeside : {R E V : Type 0} → TwoQueues R E V → Type 0
FailsToAppendBeside {R} {E} {V} log = AreTwoQueues log → (which : Which) (o : OpenPipes) (before : PipeFiles)
    (s : LogOnDisk R) → IsOpenOrClosed log (with_open which o (Some before)) s
    → (begin : NewFiles) (queue : LogQueue) (signed : LogFileContext → List ℕ) (y : Record E V)
    → SaysRecord log.says (layout_at which log) queue signed y
    → (after : PipeFiles) (error : Error) (new : Disk)
    → AppendFails (layout_at which log).format (layout_at which log).own (layout_at which log).paths begin
    queue signed before after error s.disk new
    → after.first_seq ≡ before.first_seq
    → LeavesRefused log which o before s (header_bytes begin.format) y after error new

-- What a sync leaves. If it succeeds, all records of the queue are synced. If it fails, the pipe has failed, and the
-- queue's files and the numbered files are unchanged.
pub record SyncsBeside {R E V : Type 0} (log : TwoQueues R E V) (which : Which) (o : OpenPipes)
    (files : PipeFiles) (s : LogOnDisk R) : Type 0 where
  pub answered : (new : Disk)
      → SyncsPipe (layout_at which log).format (layout_at which log).own (layout_at which log).paths files
      s.disk new
      → LeavesQueue log which o (Some files) s new (λ next. next ≡ synced (spanned_at which s).files)
      (Syncs (Ties log) which)
  pub refused : (new : Disk)
      → FailsToSyncPipe (layout_at which log).format (layout_at which log).own (layout_at which log).paths
      files s.disk new
      → LeavesQueue log which o None s new (λ next. next ≡ (spanned_at which s).files)
      (FailsWhole (Ties log) (Ties log))

-- What a failed rotation leaves.
-- - `Memory`, `NumberRange`: the same log on the same disk.
-- - `Failed`: the pipe has failed, and the queue may have rotated or not.
abbrev pub LeavesUnrotated : {R E V : Type 0} → TwoQueues R E V → Which → OpenPipes → PipeFiles → LogOnDisk R
    → List ℕ → PipeFiles → Error → Disk → Type 0
LeavesUnrotated log which o before s header after errors.Memory new =
    (new ≡ s.disk) × IsOpenOrClosed log (with_open which o (Some after)) s
LeavesUnrotated log which o before s header after errors.NumberRange new =
    (new ≡ s.disk) × IsOpenOrClosed log (with_open which o (Some after)) s
LeavesUnrotated log which o before s header after errors.Failed new =
    LeavesQueue log which o None s new
    (IsOrGoesOn header before.recycled.items s.disk (spanned_at which s).files)
    (FailsMoved (Ties log) (Ties log) which)
LeavesUnrotated log which o before s header after _ new = ⊥

-- What a rotation leaves. If it succeeds, all that was written to the queue before is synced. If it fails, it leaves
-- what `LeavesUnrotated` says for its error.
pub record RotatesBeside {R E V : Type 0} (log : TwoQueues R E V) (which : Which) (o : OpenPipes)
    (before : PipeFiles) (s : LogOnDisk R) : Type 0 where
  pub answered : (header : List ℕ) (format : LogFileFormat) (after : PipeFiles) (new : Disk)
      → Rotates (layout_at which log).format (layout_at which log).own (layout_at which log).paths header
      before after s.disk new
      → IsTurned format before after
      → LeavesQueue log which o (Some after) s new
      (GoesOnInNext header before.recycled.items s.disk (spanned_at which s).files)
      (Settles (Ties log) which)
  pub refused : (header : List ℕ) (after : PipeFiles) (error : Error) (new : Disk)
      → RotationLeaves (layout_at which log).format (layout_at which log).own (layout_at which log).paths
      header before after error s.disk new
      → LeavesUnrotated log which o before s header after error new

-- The live range of one queue begins at `seq`, and numbered files below `seq` may be lost. The queue's pipe runs with
-- the files in `now`, or, if `None`, doesn't run.
abbrev pub LeavesRaised : {R E V : Type 0} → TwoQueues R E V → Which → OpenPipes → Option PipeFiles
    → LogOnDisk R → ℕ → Disk → Type 0
LeavesRaised log which o now s seq new = IsOpenOrClosed log (with_open which o now) (raised_log which s seq new)
    × Raises (Ties log) (Ties log) which seq s (raised_log which s seq new)

-- What a failed purge leaves.
-- - `Memory`, `Other`, `NumberRange`: the same log on the same disk.
-- - `Failed`: the pipe has failed, and the files below `seq` have left the live range all the same.
abbrev pub LeavesUnpurged : {R E V : Type 0} → TwoQueues R E V → Which → OpenPipes → LogOnDisk R → ℕ
    → PipeFiles → Error → Disk → Type 0
LeavesUnpurged log which o s seq after errors.Memory new =
    (new ≡ s.disk) × IsOpenOrClosed log (with_open which o (Some after)) s
LeavesUnpurged log which o s seq after (errors.Other fault) new =
    (new ≡ s.disk) × IsOpenOrClosed log (with_open which o (Some after)) s
LeavesUnpurged log which o s seq after errors.NumberRange new =
    (new ≡ s.disk) × IsOpenOrClosed log (with_open which o (Some after)) s
LeavesUnpurged log which o s seq after errors.Failed new = LeavesRaised log which o None s seq new
LeavesUnpurged log which o s seq after _ new = ⊥

-- What a purge leaves. If it succeeds, the files below `seq` have left the live range. If it fails, it leaves what
-- `LeavesUnpurged` says for its error.
pub record PurgesBeside {R E V : Type 0} (log : TwoQueues R E V) (which : Which) (o : OpenPipes)
    (before : PipeFiles) (s : LogOnDisk R) : Type 0 where
  pub answered : (capacity seq : ℕ) (after : PipeFiles) (new : Disk)
      → Purges (layout_at which log).format (layout_at which log).own (layout_at which log).paths capacity seq
      before after s.disk new
      → IsRaised capacity seq before after → LeavesRaised log which o (Some after) s seq new
  pub refused : (capacity seq : ℕ) (after : PipeFiles) (error : Error) (new : Disk)
      → PurgeLeaves (layout_at which log).format (layout_at which log).own (layout_at which log).paths
      capacity seq before after error s.disk new
      → LeavesUnpurged log which o s seq after error new

-- `SyncsBeside`, `RotatesBeside` and `PurgesBeside` hold for each running pipe, whatever the state of the other queue
abbrev pub QuietCallsBeside : {R E V : Type 0} → TwoQueues R E V → Type 0
QuietCallsBeside {R} log = AreTwoQueues log → (which : Which) (o : OpenPipes) (files : PipeFiles)
    (s : LogOnDisk R) → IsOpenOrClosed log (with_open which o (Some files)) s
    → SyncsBeside log which o files s × RotatesBeside log which o files s × PurgesBeside log which o files s

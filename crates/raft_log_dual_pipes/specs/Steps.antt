-- What an append to one queue leaves, if both pipes ran before it: the pipes, the log on the disk, and the model's
-- numbered files.
use Rattle.std.specs.Prelude.{◌≡◌, ℕ, ◌⊎◌, List}
use Rattle.raft_log_model_laws.specs.Item.{Record}
use Rattle.raft_log_fs.specs.Disk.{Disk}
use Rattle.raft_log_fs.specs.Causes.{Fails}
use Rattle.raft_log_fs.specs.Image.{IsSound}
use Rattle.raft_log_file_writer.specs.LogQueue.{LogFiles}
use Rattle.raft_log_fs.specs.Touching.{TouchesOnlyNames}
use Rattle.raft_log_record_base.specs.declared.errors.Error.{Error}
use Rattle.raft_log_record_base.specs.declared.errors.Error.TheVariants as errors
use Rattle.raft_log_record_base.specs.declared.pipe_log.LogQueue.{LogQueue}
use Rattle.raft_log_record_base.specs.declared.pipe_log.FileBlockHandle.{FileBlockHandle}
use Rattle.raft_log_record_base.specs.declared.pipe_log.LogFileContext.{LogFileContext}
use Rattle.raft_log_file_format.specs.Header.{header_bytes}
use Rattle.raft_log_file_pipe.specs.Appending.{AppendsAt, AppendFails}
use Rattle.raft_log_file_pipe.specs.Exits.{RotationLeaves}
use Rattle.raft_log_file_pipe.specs.declared.pipe_files.PipeFiles.{PipeFiles}
use Rattle.raft_log_file_pipe.specs.declared.new_files.NewFiles.{NewFiles}
use Rattle.raft_log_machine_laws.specs.Calls.{Which, Appends, CutsBack, LeavesOut, MayAppend}
use Rattle.raft_log_dual_pipes.specs.Queues.{QueueLayout, IsQueueLayout, TwoQueues, AreTwoQueues, layout_at, SaysRecord}
use Rattle.raft_log_dual_pipes.specs.State.{Spanned, LogOnDisk, spanned_at, with_spanned, Pipes, pipe_at, with_pipe, RunsQueue, Run, HoldsQueue, HoldsBoth, Ties}
use Rattle.raft_log_dual_pipes.specs.Turning.{IsOrGoesOn, HasLast, HasTaken, IsCutBack, in_span}
use Rattle.raft_log_dual_pipes.specs.Crash.{AllowsIn}

-- What one queue keeps through a call on the other queue. If its pipe ran, it still runs. If its last file held its
-- records, it still does.
pub record StaysAside {R : Type 0} (layout : QueueLayout R) (theirs : List ℕ → Type 0)
    (old new : Disk) : Type 0 where
  pub runs : (files : PipeFiles) (q : Spanned R) → RunsQueue layout files q old → RunsQueue layout files q new
  pub holds : (q : Spanned R) → HoldsQueue layout q.files old → HoldsQueue layout q.files new

-- `theirs` are the paths that a call may change. If none of these paths belongs to a queue, and the call changes
-- nothing but these paths and their files, `StaysAside` holds for the queue.
abbrev pub OtherQueueStays : {R : Type 0} → QueueLayout R → (List ℕ → Type 0) → Type 0
OtherQueueStays layout theirs = IsQueueLayout layout → ((path : List ℕ) → layout.own path → theirs path → ⊥)
    → (old new : Disk) → TouchesOnlyNames theirs old new → StaysAside layout theirs old new

-- the log on the disk `d` after one queue's files became `files`; its live range begins at the same number
abbrev pub next_log : {R : Type 0} → Which → LogOnDisk R → LogFiles R → Disk → LogOnDisk R
next_log which s files d = with_spanned which s (in_span (spanned_at which s) files) d

-- If a pipe writes a record, both pipes still run. The record is the last one of its queue, at the location `block`.
-- The queue may have rotated before the write. The numbered files get the record in the file of this location.
abbrev pub AppendIsAStep : {R E V : Type 0} → TwoQueues R E V → Type 0
AppendIsAStep {R} {E} {V} log = AreTwoQueues log → (which : Which) (p : Pipes) (s : LogOnDisk R)
    → Run log p s → (begin : NewFiles) (queue : LogQueue) (signed : LogFileContext → List ℕ) (y : Record E V)
    → (said : SaysRecord log.says (layout_at which log) queue signed y)
    → (after : PipeFiles) (block : FileBlockHandle) (new : Disk)
    → AppendsAt (layout_at which log).format (layout_at which log).own (layout_at which log).paths begin
    queue signed (pipe_at which p) after block s.disk new
    → after.first_seq ≡ (pipe_at which p).first_seq
    → (files : LogFiles R)
    × HasTaken (header_bytes begin.format) (pipe_at which p).recycled.items s.disk (spanned_at which s).files
    files
    × HasLast signed said.value block files
    × Run log (with_pipe which p after) (next_log which s files new)
    × Appends (Ties log) which y block.id.seq s (next_log which s files new)

-- A record's write failed, and the part that was written was truncated away. Both pipes still run, and all that was
-- written to the queue before is synced. The queue may have rotated.
abbrev pub LeavesCutBack : {R E V : Type 0} → TwoQueues R E V → Which → Pipes → LogOnDisk R → List ℕ
    → PipeFiles → Disk → Type 0
LeavesCutBack {R} log which p s header after new = (files : LogFiles R)
    × IsCutBack header (pipe_at which p).recycled.items s.disk (spanned_at which s).files files
    × Run log (with_pipe which p after) (next_log which s files new)
    × CutsBack (Ties log) which s (next_log which s files new)

-- No record was added, and both pipes still run. Either the queue is unchanged, or all its records are synced, perhaps
-- after a rotation.
abbrev pub LeavesWithout : {R E V : Type 0} → TwoQueues R E V → Which → Pipes → LogOnDisk R → List ℕ
    → PipeFiles → Disk → Type 0
LeavesWithout {R} log which p s header after new = (files : LogFiles R)
    × ((files ≡ (spanned_at which s).files)
    ⊎ IsCutBack header (pipe_at which p).recycled.items s.disk (spanned_at which s).files files)
    × Run log (with_pipe which p after) (next_log which s files new)
    × LeavesOut (Ties log) which s (next_log which s files new)

-- The pipe has failed. The last file of each queue holds its records; the new record may be among them or not.
abbrev pub LeavesFailed : {R E V : Type 0} → TwoQueues R E V → Which → Pipes → LogOnDisk R → List ℕ
    → Record E V → Disk → Type 0
LeavesFailed {R} log which p s header y new = (files : LogFiles R)
    × (IsOrGoesOn header (pipe_at which p).recycled.items s.disk (spanned_at which s).files files
    ⊎ (IsCutBack header (pipe_at which p).recycled.items s.disk (spanned_at which s).files files
    ⊎ HasTaken header (pipe_at which p).recycled.items s.disk (spanned_at which s).files files))
    × HoldsBoth log (next_log which s files new)
    × MayAppend (Ties log) (AllowsIn log) which y s (next_log which s files new)

-- What a failed append leaves.
-- - `Io`, `TryAgain`: the part of the record that was written was truncated away.
-- - `NumberRange`, `Memory`: no record was added.
-- - `Failed`: the pipe has failed, and the new record may be there or not.
abbrev pub NotAppended : {R E V : Type 0} → TwoQueues R E V → Which → Pipes → LogOnDisk R → List ℕ
    → Record E V → PipeFiles → Error → Disk → Type 0
NotAppended log which p s header y after (errors.Io kind) new = LeavesCutBack log which p s header after new
NotAppended log which p s header y after (errors.TryAgain text) new =
    LeavesCutBack log which p s header after new
NotAppended log which p s header y after errors.NumberRange new =
    LeavesWithout log which p s header after new
NotAppended log which p s header y after errors.Memory new = LeavesWithout log which p s header after new
NotAppended log which p s header y after errors.Failed new = LeavesFailed log which p s header y new
NotAppended log which p s header y after _ new = ⊥

-- a failed append leaves what `NotAppended` says for its error
abbrev pub RefusedAppendIsAStep : {R E V : Type 0} → TwoQueues R E V → Type 0
RefusedAppendIsAStep {R} {E} {V} log = AreTwoQueues log → (which : Which) (p : Pipes) (s : LogOnDisk R)
    → Run log p s → (begin : NewFiles) (queue : LogQueue) (signed : LogFileContext → List ℕ) (y : Record E V)
    → SaysRecord log.says (layout_at which log) queue signed y
    → (after : PipeFiles) (error : Error) (new : Disk) → IsSound new
    → AppendFails (layout_at which log).format (layout_at which log).own (layout_at which log).paths begin
    queue signed (pipe_at which p) after error s.disk new
    → after.first_seq ≡ (pipe_at which p).first_seq
    → NotAppended log which p s (header_bytes begin.format) y after error new

-- the errors of an append or a rotation that are returned only after a file call failed
abbrev pub TellsOfCall : Error → Type 0
TellsOfCall (errors.Io kind) = Unit {0}
TellsOfCall (errors.TryAgain text) = Unit {0}
TellsOfCall errors.Failed = Unit {0}
TellsOfCall _ = ⊥

-- if an append fails with `Io`, `TryAgain` or `Failed`, a file call has failed
abbrev pub RefusedAppendHasFailed : {R E V : Type 0} → TwoQueues R E V → Type 0
RefusedAppendHasFailed {R} {E} {V} log = AreTwoQueues log → (which : Which) (p : Pipes) (s : LogOnDisk R)
    → Run log p s → (begin : NewFiles) (queue : LogQueue) (signed : LogFileContext → List ℕ) (y : Record E V)
    → SaysRecord log.says (layout_at which log) queue signed y
    → (after : PipeFiles) (error : Error) (new : Disk)
    → AppendFails (layout_at which log).format (layout_at which log).own (layout_at which log).paths begin
    queue signed (pipe_at which p) after error s.disk new
    → TellsOfCall error → Fails s.disk new

-- If a rotation fails with `Io`, `TryAgain` or `Failed`, a file call has failed. Of these errors, a rotation returns
-- only `Failed`.
abbrev pub RefusedRotationHasFailed : {R E V : Type 0} → TwoQueues R E V → Type 0
RefusedRotationHasFailed {R} log = AreTwoQueues log → (which : Which) (p : Pipes) (s : LogOnDisk R)
    → Run log p s → (header : List ℕ) (after : PipeFiles) (error : Error) (new : Disk)
    → RotationLeaves (layout_at which log).format (layout_at which log).own (layout_at which log).paths header
    (pipe_at which p) after error s.disk new
    → TellsOfCall error → Fails s.disk new

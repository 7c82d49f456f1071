-- What each call on a log's pipes does to a log over which they run. Each definition says how the log's files change.
-- It also says how the numbered files change, which are these files as the model sees them. `v` are the pipes before
-- the call, `w` after it. `s` is the log before the call.
use Rattle.std.specs.Prelude.{◌≡◌, ◌⊎◌, ◌↔◌, IsTrue, ℕ, ◌+◌, ◌-◌, ◌*◌, ◌/◌, ◌^◌, min, suc, true, None, Err, Result, List, length}
use Rattle.raft_log_fs.specs.Causes.{Fails}
use Rattle.raft_log_fs.specs.Exits.{IsUnarmed}
use Rattle.raft_log_file_writer.specs.LogQueue.{LogFiles}
use Rattle.raft_log_record_base.specs.declared.errors.Error.{Error}
use Rattle.raft_log_record_base.specs.declared.errors.Error.TheVariants as errors
use Rattle.raft_log_record_base.specs.declared.pipe_log.FileBlockHandle.{FileBlockHandle}
use Rattle.raft_log_record_base.specs.declared.pipe_log.LogFileContext.{LogFileContext}
use Rattle.raft_log_active_file.specs.Queue.{synced}
use Rattle.raft_log_active_file.specs.declared.record.LogRecord.{LogRecord}
use Rattle.raft_log_file_pipe.specs.Purging.{IsInSpan}
use Rattle.raft_log_machine_laws.specs.Calls.{Which, Appends, CutsBack, FailsWhole, LeavesOut, MayAppend, Raises, Settles, Syncs}
use Rattle.raft_log_dual_pipes.specs.Queues.{layout_at, SaysRecord}
use Rattle.raft_log_dual_pipes.specs.State.{spanned_at, pipe_at, Ties}
use Rattle.raft_log_dual_pipes.specs.Turning.{GoesOnInNext, HasLast, HasTaken, IsCutBack, IsOrGoesOn}
use Rattle.raft_log_dual_pipes.specs.Steps.{next_log}
use Rattle.raft_log_dual_pipes.specs.Syncing.{FailsMoved, raised_log}
use Rattle.raft_log_dual_pipes.specs.OpenOrClosed.{both_open, IsOpenOrClosed, LeavesQueue}
use Rattle.raft_log_dual_pipes.specs.PerQueue.{LeavesRaised}
use Rattle.raft_log_dual_pipes.specs.Failing.{failed_pipe}
use Rattle.raft_log_dual_pipes.specs.Pipes.{LogPipes, LogSense, RunsOn, LogRecordValue, State, files_of, header_at, is_failed, one_at, queue_of, queues, spares_at}

-- An append succeeded. `signed` gives the record's bytes for a file, and `y` is the same record in the model. If the
-- pipes ran over a log, they still do, and the record is the last one of its queue, at the location `block`. The queue
-- may have rotated before the write. The numbered files get the record in the file of this location.
abbrev pub AppendsTo : Which → (LogFileContext → List ℕ) → FileBlockHandle → LogPipes → LogPipes → Type 0
AppendsTo which signed block v w = (log : LogSense) (s : State) (y : LogRecordValue) → RunsOn log v s
    → (said : SaysRecord log.says (layout_at which (queues log)) (queue_of which) signed y)
    → (block.id.queue ≡ queue_of which) × ((files : LogFiles LogRecord)
    × HasTaken (header_at which v) (spares_at which v) s.disk (spanned_at which s).files files
    × HasLast signed said.value block files × RunsOn log w (next_log which s files w.disk)
    × Appends (Ties (queues log)) which y block.id.seq s (next_log which s files w.disk))

-- A record's write failed, and the part that was written was truncated away. The pipes still run over the log. All
-- records of the queue are synced, and the queue may have rotated.
abbrev pub CutsBackOn : LogSense → Which → State → LogPipes → LogPipes → Type 0
CutsBackOn log which s v w = (files : LogFiles LogRecord)
    × IsCutBack (header_at which v) (spares_at which v) s.disk (spanned_at which s).files files
    × RunsOn log w (next_log which s files w.disk)
    × CutsBack (Ties (queues log)) which s (next_log which s files w.disk)

-- No record was added, and the pipes still run over the log. Either the queue is unchanged, or all its records are
-- synced, perhaps after a rotation.
abbrev pub LeavesOutOn : LogSense → Which → State → LogPipes → LogPipes → Type 0
LeavesOutOn log which s v w = (files : LogFiles LogRecord)
    × ((files ≡ (spanned_at which s).files)
    ⊎ IsCutBack (header_at which v) (spares_at which v) s.disk (spanned_at which s).files files)
    × RunsOn log w (next_log which s files w.disk)
    × LeavesOut (Ties (queues log)) which s (next_log which s files w.disk)

-- The pipe of one queue has failed in an append. The log is on the disk, with the record or without it, and may be
-- opened again.
abbrev pub MayContain : LogSense → Which → State → LogRecordValue → LogPipes → LogPipes → Type 0
MayContain log which s y v w = LeavesQueue (queues log) which (both_open (files_of v)) None s w.disk
    (λ files. IsOrGoesOn (header_at which v) (spares_at which v) s.disk (spanned_at which s).files files
    ⊎ (IsCutBack (header_at which v) (spares_at which v) s.disk (spanned_at which s).files files
    ⊎ HasTaken (header_at which v) (spares_at which v) s.disk (spanned_at which s).files files))
    (MayAppend (Ties (queues log)) (Ties (queues log)) which y)

-- What a failed append leaves.
-- - `Io`, `TryAgain`: a file call failed, and the part of the record that was written was truncated away.
-- - `NumberRange`, `Memory`: no record was added.
-- - `Failed`: a file call failed, and the pipe has failed. The record may be there or not.
abbrev pub RefusalLeaves : LogSense → Which → State → LogRecordValue → LogPipes → LogPipes → Error → Type 0
RefusalLeaves log which s y v w (errors.Io kind) = Fails v.disk w.disk × CutsBackOn log which s v w
RefusalLeaves log which s y v w (errors.TryAgain text) = Fails v.disk w.disk × CutsBackOn log which s v w
RefusalLeaves log which s y v w errors.NumberRange = LeavesOutOn log which s v w
RefusalLeaves log which s y v w errors.Memory = LeavesOutOn log which s v w
RefusalLeaves log which s y v w errors.Failed = Fails v.disk w.disk × MayContain log which s y v w
RefusalLeaves log which s y v w _ = ⊥

-- An append failed. If the pipes ran over a log, the append left what `RefusalLeaves` says for its error.
abbrev pub FailsToAppendTo : Which → (LogFileContext → List ℕ) → Error → LogPipes → LogPipes → Type 0
FailsToAppendTo which signed error v w = (log : LogSense) (s : State) (y : LogRecordValue) → RunsOn log v s
    → SaysRecord log.says (layout_at which (queues log)) (queue_of which) signed y
    → RefusalLeaves log which s y v w error

-- The sync of one queue succeeded. If the pipes ran over a log, they still do, and all records of this queue are
-- durable.
abbrev pub SyncsQueue : Which → LogPipes → LogPipes → Type 0
SyncsQueue which v w = (log : LogSense) (s : State) → RunsOn log v s
    → RunsOn log w (next_log which s (synced (spanned_at which s).files) w.disk)
    × Syncs (Ties (queues log)) which s (next_log which s (synced (spanned_at which s).files) w.disk)

-- The sync of one queue failed. If the pipes ran over a log, a file call failed, and the queue's pipe has failed. The
-- log is on the disk with the same records, and may be opened again.
abbrev pub FailsToSyncQueue : Which → LogPipes → LogPipes → Type 0
FailsToSyncQueue which v w = (log : LogSense) (s : State) → RunsOn log v s
    → Fails v.disk w.disk
    × IsOpenOrClosed (queues log) (failed_pipe which (files_of v))
    (next_log which s (spanned_at which s).files w.disk)
    × FailsWhole (Ties (queues log)) (Ties (queues log)) s
    (next_log which s (spanned_at which s).files w.disk)

-- The rotation of one queue succeeded. If the pipes ran over a log, they still do. All that was written to this queue
-- before is synced.
abbrev pub RotatesQueue : Which → LogPipes → LogPipes → Type 0
RotatesQueue which v w = (log : LogSense) (s : State) → RunsOn log v s → (files : LogFiles LogRecord)
    × GoesOnInNext (header_at which v) (spares_at which v) s.disk (spanned_at which s).files files
    × RunsOn log w (next_log which s files w.disk)
    × Settles (Ties (queues log)) which s (next_log which s files w.disk)

-- nothing was done: the pipes run over the same log, on the same disk
abbrev pub LeavesSame : LogSense → State → LogPipes → LogPipes → Type 0
LeavesSame log s v w = RunsOn log w s × (w.disk ≡ v.disk)

-- What a failed rotation leaves.
-- - `Memory`, `NumberRange`: the same log, over which the pipes run.
-- - `Failed`: a file call failed, and the pipe has failed. The queue may have rotated or not. The log is on the disk
--   and may be opened again.
abbrev pub TurnLeaves : LogSense → Which → State → LogPipes → LogPipes → Error → Type 0
TurnLeaves log which s v w errors.Memory = LeavesSame log s v w
TurnLeaves log which s v w errors.NumberRange = LeavesSame log s v w
TurnLeaves log which s v w errors.Failed = Fails v.disk w.disk
    × LeavesQueue (queues log) which (both_open (files_of v)) None s w.disk
    (IsOrGoesOn (header_at which v) (spares_at which v) s.disk (spanned_at which s).files)
    (FailsMoved (Ties (queues log)) (Ties (queues log)) which)
TurnLeaves log which s v w _ = ⊥

-- A rotation of one queue failed. If the pipes ran over a log, the rotation left what `TurnLeaves` says for its error.
abbrev pub FailsToRotateQueue : Which → Error → LogPipes → LogPipes → Type 0
FailsToRotateQueue which error v w = (log : LogSense) (s : State) → RunsOn log v s
    → TurnLeaves log which s v w error

-- The purge of one queue succeeded. If the pipes ran over a log, they still do, and the files below `seq` have left the
-- queue's live range.
abbrev pub PurgesQueue : Which → ℕ → LogPipes → LogPipes → Type 0
PurgesQueue which seq v w = (log : LogSense) (s : State) → RunsOn log v s
    → RunsOn log w (raised_log which s seq w.disk)
    × Raises (Ties (queues log)) (Ties (queues log)) which seq s (raised_log which s seq w.disk)

-- What a failed purge leaves.
-- - `Memory`, `NumberRange`, and `Other` (`seq` isn't in the live range): the same log, over which the pipes run.
-- - `Failed`: a file call failed, and the pipe has failed. The files below `seq` have left the live range all the same.
--   The log is on the disk and may be opened again.
abbrev pub PurgeLeavesOn : LogSense → Which → ℕ → State → LogPipes → LogPipes → Error → Type 0
PurgeLeavesOn log which seq s v w errors.Memory = LeavesSame log s v w
PurgeLeavesOn log which seq s v w (errors.Other fault) =
    (IsInSpan seq (pipe_at which (files_of v)) → ⊥) × LeavesSame log s v w
PurgeLeavesOn log which seq s v w errors.NumberRange = LeavesSame log s v w
PurgeLeavesOn log which seq s v w errors.Failed = Fails v.disk w.disk
    × LeavesRaised (queues log) which (both_open (files_of v)) None s seq w.disk
PurgeLeavesOn log which seq s v w _ = ⊥

-- A purge of one queue failed. If the pipes ran over a log, the purge left what `PurgeLeavesOn` says for its error.
abbrev pub FailsToPurgeQueue : Which → ℕ → Error → LogPipes → LogPipes → Type 0
FailsToPurgeQueue which seq error v w = (log : LogSense) (s : State) → RunsOn log v s
    → PurgeLeavesOn log which seq s v w error

-- if the pipes run over a log, `first` and `last` are the numbers of the first and the last file of a queue's live
-- range
abbrev pub IsSpanOf : Which → LogPipes → ℕ → ℕ → Type 0
IsSpanOf which v first last = (log : LogSense) (s : State) → RunsOn log v s
    → (first ≡ (spanned_at which s).first) × (last ≡ (spanned_at which s).files.last)

-- how many files the live range of a queue has
abbrev pub count_at : Which → LogPipes → ℕ
count_at which v = suc (length (pipe_at which (files_of v)).earlier.items)

-- The number of the first file after a fraction of a queue's live range. The fraction is `num / den` of the files,
-- rounded down. For the whole range, the result is the number after the last file. It is at most 2^64 - 1.
abbrev pub seq_at : Which → LogPipes → ℕ → ℕ → ℕ
seq_at which v num den =
    min ((pipe_at which (files_of v)).first_seq + count_at which v * num / den) (2 ^ 64 - 1)

-- the total size of the files in a queue's live range, if each of them has the target size; at most 2^64 - 1
abbrev pub size_at : Which → LogPipes → ℕ
size_at which v = min (count_at which v * (one_at which v).settings.new_files.target_size) (2 ^ 64 - 1)

-- if a pipe had failed before the call, the call returns `Failed` and changes nothing
abbrev pub StaysFailed : {A : Type 0} → Result A Error → LogPipes → LogPipes → Type 0
StaysFailed result v w = is_failed v ≡ true → (result ≡ Err errors.Failed) × (w ≡ v)

-- a pipe has failed after the call if and only if the call returns `Failed`
abbrev pub TellsFailure : {A : Type 0} → Result A Error → LogPipes → Type 0
TellsFailure result w = IsTrue (is_failed w) ↔ (result ≡ Err errors.Failed)

-- why a fault wasn't armed: the file system had stopped, or memory ran out
abbrev pub ArmsNoPipes : LogPipes → Error → Type 0
ArmsNoPipes v (errors.Io kind) = IsUnarmed v.disk kind
ArmsNoPipes v _ = ⊥

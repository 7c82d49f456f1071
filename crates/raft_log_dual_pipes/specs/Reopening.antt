-- Which numbered files a log has after a stop, and after an open that found its files and opened its pipes. A numbered
-- file is a file as the model sees it: its number and its records.
use Rattle.std.specs.Prelude.{◌≡◌, ℕ, ◌≤◌, ◌⊎◌, false, Some, None, List, [], ◌∷◌, ◌++◌, length, suc, take}
use Rattle.raft_log_model_laws.specs.Item.{Record}
use Rattle.raft_log_model_laws.specs.Groups.{Map, directory_meaning, taken}
use Rattle.raft_log_machine_laws.specs.Images.{IsOneRun}
use Rattle.raft_log_fs.specs.Disk.{Disk}
use Rattle.raft_log_fs.specs.Image.{IsImage, IsSound}
use Rattle.raft_log_file_writer.specs.LogQueue.{LogFiles, recent, IsAbsent, NoChanceInLast}
use Rattle.raft_log_record_base.specs.declared.errors.Error.{Error}
use Rattle.raft_log_record_base.specs.declared.errors.Error.TheVariants as errors
use Rattle.raft_log_fs.specs.Touching.{HasFile}
use Rattle.raft_log_fs.specs.declared.handle.Permission.TheVariants.{ReadWrite}
use Rattle.raft_log_active_file.specs.Reopening.{IsReadTo}
use Rattle.raft_log_file_format.specs.Header.{header_bytes}
use Rattle.raft_log_active_file.specs.Layout.{path_of}
use Rattle.raft_log_file_pipe.specs.Files.{Listed, IsSpan, AllKept}
use Rattle.raft_log_file_pipe.specs.Opening.{HasOwnHeader, OpensPipe, OpenLeaves, first_number}
use Rattle.raft_log_file_pipe.specs.declared.found_files.FoundFiles.{FoundFiles}
use Rattle.raft_log_file_pipe.specs.declared.new_files.NewFiles.{NewFiles}
use Rattle.raft_log_file_pipe.specs.declared.pipe_files.PipeFiles.{PipeFiles}
use Rattle.raft_log_machine_laws.specs.Model.{Files}
use Rattle.raft_log_machine_laws.specs.Log.{View, IsLog}
use Rattle.raft_log_machine_laws.specs.Calls.{Which, ReadAgain, IsMadeOf, Replays, read_files, records_read, from_at, queue_at, put}
use Rattle.raft_log_machine_laws.specs.Calls.Which.{InAppend, InRewrite}
use Rattle.raft_log_dual_pipes.specs.Queues.{QueueLayout, TwoQueues, AreTwoQueues, layout_at}
use Rattle.raft_log_dual_pipes.specs.State.{Spanned, LogOnDisk, spanned_at, with_spanned, IsStopped, HasSpan, Ties}
use Rattle.raft_log_dual_pipes.specs.Crash.{IsLeftByCrash}
use Rattle.raft_log_dual_pipes.specs.Beginning.{stopped_log}
use Rattle.raft_log_dual_pipes.specs.Steps.{next_log}
use Rattle.raft_log_dual_pipes.specs.OpenOrClosed.{IsUnbegun, OpenPipes, none_open, with_open, IsOpenOrClosed}

-- One queue of the log `s` was read again, which gave the log `t`. Numbered files that had left the live range may be
-- in it again. Of the unsynced records, a prefix is left. All records that were read are synced.
abbrev pub ReadsAgain : {S E V : Type 0} → (S → Files E V → Type 0) → Which → S → S → Type 0
ReadsAgain {S} {E} {V} ties which s t = (f : Files E V) → ties s f
    → (r : ReadAgain (queue_at which f))
    × ties t (put which f (from_at which f) (read_files (queue_at which f) r))

-- Both queues of the log `s` were read again, which gave the log `t`. Numbered files that had left a live range may be
-- in it again. Of each queue's unsynced records, a prefix is left. All records that were read are synced.
abbrev pub ReadsBothAgain : {S E V : Type 0} → (S → Files E V → Type 0) → S → S → Type 0
ReadsBothAgain {S} {E} {V} ties s t = (f : Files E V) → ties s f
    → (r : ReadAgain f.rewrite) × (a : ReadAgain f.append)
    × ties t (record f { rewrite = read_files f.rewrite r; append = read_files f.append a })

-- The queue's files are on the disk as a stop left them, and each number of its live range has a file. Or no file of
-- the queue was created yet.
abbrev pub RestsQueue : {R : Type 0} → QueueLayout R → Spanned R → Disk → Type 0
RestsQueue layout q d = (IsStopped layout q.files d × HasSpan layout.format q d) ⊎ IsUnbegun layout q d

-- the files of both queues are on the disk as a stop left them, or not created yet
pub record RestBoth {R E V : Type 0} (log : TwoQueues R E V) (s : LogOnDisk R) : Type 0 where
  pub append : RestsQueue log.append s.append s.disk
  pub rewrite : RestsQueue log.rewrite s.rewrite s.disk

-- A stop without a CRC collision leaves both queues at rest, whatever their states were. Each queue has its durable
-- records and a prefix of its unsynced ones. The numbered files are as if both queues had been read again. A further
-- crash leaves no CRC collision either.
abbrev pub CrashIsAStep : {R E V : Type 0} → TwoQueues R E V → Type 0
CrashIsAStep {R} log = AreTwoQueues log → (o : OpenPipes) (s : LogOnDisk R) (image : Disk)
    → IsOpenOrClosed log o s → IsImage s.disk image
    → NoChanceInLast log.append.format s.append.files s.disk image
    → NoChanceInLast log.rewrite.format s.rewrite.files s.disk image
    → (append rewrite : ℕ) × (append ≤ length s.append.files.pending)
    × (rewrite ≤ length s.rewrite.files.pending)
    × RestBoth log (stopped_log s append rewrite image)
    × IsOpenOrClosed log none_open (stopped_log s append rewrite image)
    × ReadsBothAgain (Ties log) s (stopped_log s append rewrite image)
    × IsLeftByCrash log s (stopped_log s append rewrite image)
    × ((later : LogOnDisk R) → IsImage image later.disk → later.append.first ≡ s.append.first
    → later.rewrite.first ≡ s.rewrite.first
    → IsLeftByCrash log (stopped_log s append rewrite image) later)

-- The files of a queue, as they were found.
-- - The last one has this `number`. It was read up to `found.end`, and its handle permits writes.
-- - The earlier ones are at their paths, and their numbers follow one another.
-- - No file has the number just below the first file's.
-- - Each file in `found.recycled` can be recycled.
pub record AreFound {R : Type 0} (layout : QueueLayout R) (found : FoundFiles) (earlier : List Listed)
    (last : Listed) (number : ℕ) (d : Disk) : Type 0 where
  pub number_is : last.seq ≡ number
  pub listed : last.reserved ≡ false
  pub permitted : last.handle.permission ≡ ReadWrite
  pub named : d.names (path_of layout.paths last) ≡ Some last.handle.file
  pub read : HasFile last.handle.file (IsReadTo layout.format number found.end) d
  pub headed : HasOwnHeader layout.format found.end last d
  pub span : IsSpan layout.paths d.names (first_number earlier last) earlier number
  pub begins : (m : ℕ) → suc m ≡ first_number earlier last → IsAbsent layout.format m d
  pub spares : AllKept layout.format layout.paths (first_number earlier last) d found.recycled.items

-- What was found of a queue that a stop left. Either all its files were found, from the last one back to the first gap
-- in the numbers. Or no file was found, because none was created yet.
pub data IsFoundOf {R : Type 0} (layout : QueueLayout R) (found : FoundFiles) (q : Spanned R)
    (d : Disk) : Type 0 where
  stopped : (earlier : List Listed) (last : Listed) → found.files.items ≡ earlier ++ last ∷ []
      → IsStopped layout q.files d
      → AreFound layout found earlier last q.files.last d → IsFoundOf layout found q d
  unbegun : found.files.items ≡ [] → IsUnbegun layout q d
      → AllKept layout.format layout.paths 1 d found.recycled.items → IsFoundOf layout found q d

-- the log after the files of one queue were found again as `files`; the queue's live range begins at `first`
abbrev pub found_log : {R : Type 0} → Which → LogOnDisk R → ℕ → LogFiles R → Disk → LogOnDisk R
found_log which s first files d = with_spanned which s (record { first = first; files = files }) d

-- What a failed open of one pipe leaves.
-- - `Memory`, `InvalidArgument`: the disk is unchanged.
-- - `Io`: no pipe runs for the queue. All records that were read of the queue are still there, synced.
abbrev pub LeavesUnopened : {R E V : Type 0} → TwoQueues R E V → Which → OpenPipes → LogOnDisk R → Error → Disk
    → Type 0
LeavesUnopened log which o s errors.Memory new = new ≡ s.disk
LeavesUnopened log which o s (errors.InvalidArgument text) new = new ≡ s.disk
LeavesUnopened {R} log which o s (errors.Io kind) new = (files : LogFiles R) × (files.pending ≡ [])
    × IsOpenOrClosed log (with_open which o None) (next_log which s files new)
    × ReadsAgain (Ties log) which s (next_log which s files new)
LeavesUnopened log which o s _ new = ⊥

-- A pipe was opened over the queue `was` that was found, and continues with the queue `now`. Both have the same earlier
-- files, and the same number of the last file. The last file of `now` has the header of the pipe's format. Its records
-- are all those of `was`'s last file, synced.
pub record GoesOnFound {R : Type 0} (files : PipeFiles) (was now : LogFiles R) : Type 0 where
  pub older : now.older ≡ was.older
  pub last : now.last ≡ was.last
  pub header : now.header ≡ header_bytes files.active.format
  pub durable : now.durable ≡ recent was
  pub pending : now.pending ≡ []

-- The pipe of one queue is opened over what was found of the queue. The other queue is unchanged. If the open succeeds,
-- the pipe runs, and all records of its queue are synced. If the open fails, it leaves what `LeavesUnopened` says for
-- its error.
pub record OpensBeside {R E V : Type 0} (log : TwoQueues R E V) (which : Which) (o : OpenPipes)
    (begin : NewFiles) (found : FoundFiles) (s : LogOnDisk R) : Type 0 where
  pub answered : (files : PipeFiles) (new : Disk)
      → OpensPipe (layout_at which log).format (layout_at which log).own (layout_at which log).paths begin found
      files s.disk new
      → (q : LogFiles R) × GoesOnFound files (spanned_at which s).files q
      × IsOpenOrClosed log (with_open which o (Some files)) (found_log which s files.first_seq q new)
      × ReadsAgain (Ties log) which s (found_log which s files.first_seq q new)
  pub refused : (error : Error) (new : Disk)
      → OpenLeaves (layout_at which log).format (layout_at which log).own (layout_at which log).paths begin
      found error s.disk new
      → LeavesUnopened log which o s error new

-- `OpensBeside` holds for each queue that has no running pipe, if the disk is sound and `found` is what was found of
-- the queue
abbrev pub OpenIsAStep : {R E V : Type 0} → TwoQueues R E V → Type 0
OpenIsAStep {R} log = AreTwoQueues log → (which : Which) (o : OpenPipes) (begin : NewFiles)
    (found : FoundFiles) (s : LogOnDisk R) → IsSound s.disk → IsOpenOrClosed log (with_open which o None) s
    → IsFoundOf (layout_at which log) found (spanned_at which s) s.disk
    → OpensBeside log which o begin found s

-- What is true of the log `t` that was read again from the log `s`.
-- - `append_first`, `rewrite_first`, `still`: reading one queue and then the other reads both. A queue without unsynced
--   records counts as read again.
-- - `log_of`: the contents are the map after a prefix of the pending batches, and no batch is pending.
-- - `replays`: if an engine's view `v` is built from what was read, the step from `s` to `t` is a replay in the model.
pub record FoundLogIsALog {R E V : Type 0} (log : TwoQueues R E V) : Type 0 where
  pub append_first : (s mid t : LogOnDisk R) → ReadsAgain (Ties log) InAppend s mid
      → ReadsAgain (Ties log) InRewrite mid t → ReadsBothAgain (Ties log) s t
  pub rewrite_first : (s mid t : LogOnDisk R) → ReadsAgain (Ties log) InRewrite s mid
      → ReadsAgain (Ties log) InAppend mid t → ReadsBothAgain (Ties log) s t
  pub still : (which : Which) (s : LogOnDisk R) → (spanned_at which s).files.pending ≡ []
      → ReadsAgain (Ties log) which s s
  pub log_of : (s t : LogOnDisk R) (m : Map E V) (pending : List (Record E V))
      → ReadsBothAgain (Ties log) s t → IsLog (Ties log s) m pending
      → (k : ℕ) × (k ≤ length pending) × IsLog (Ties log t) (taken m (take k pending)) []
  pub replays : (s t : LogOnDisk R) (v : View E V) → ReadsBothAgain (Ties log) s t
      → ((f : Files E V) (r : ReadAgain f.rewrite) (a : ReadAgain f.append) → Ties log s f
      → Ties log t (record f { rewrite = read_files f.rewrite r; append = read_files f.append a })
      → ((g : ℕ) → IsOneRun (directory_meaning (records_read f.rewrite r) (records_read f.append a) g))
      → IsMadeOf v (records_read f.rewrite r) (records_read f.append a)
      (record f { rewrite = read_files f.rewrite r; append = read_files f.append a }))
      → Replays (Ties log) (Ties log) v s t

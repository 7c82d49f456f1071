-- Opening a pipe over the files that were found of its queue. If none were found, the queue begins. The files found are
-- `earlier` and `last`. `last` was read up to `end`; if `end` is `None`, it has no header. `kept` are the files kept
-- for recycling.
use Rattle.std.specs.Prelude.{◌≡◌, ℕ, false, Option, Some, None, List, [], ◌∷◌, ◌++◌}
use Rattle.raft_log_fs.specs.Disk.{Disk}
use Rattle.raft_log_fs.specs.Causes.{Fails}
use Rattle.raft_log_file_writer.specs.LogFormat.{Format}
use Rattle.raft_log_file_writer.specs.LogQueue.{Past, LogFiles, IsAbsent}
use Rattle.raft_log_record_base.specs.declared.errors.Error.{Error}
use Rattle.raft_log_record_base.specs.declared.errors.Error.TheVariants as errors
use Rattle.raft_log_file_format.specs.Header.{header_bytes, first_format}
use Rattle.raft_log_file_format.specs.declared.header.LogFileFormat.{LogFileFormat}
use Rattle.raft_log_active_file.specs.Queue.{with_room}
use Rattle.raft_log_active_file.specs.Beginning.{IsFresh, fresh_queue}
use Rattle.raft_log_active_file.specs.Bridge.{GapsStay}
use Rattle.raft_log_active_file.specs.Reopening.{reread}
use Rattle.raft_log_active_file.specs.Layout.{FilePaths, path_of}
use Rattle.raft_log_active_file.specs.Opening.{BeginQueueMakes, BeginsQueueBy, IsHalfBegun}
use Rattle.raft_log_active_file.specs.TakingUp.{IsLeftBehind, HandleBeginsWith, IsHalfOpen, ReopenMakes, ReopensBy}
use Rattle.raft_log_file_pipe.specs.Headers.{IsAlignmentRefusal}
use Rattle.raft_log_file_pipe.specs.Files.{Listed, IsSpan, AllKept, IsPipe}
use Rattle.raft_log_file_pipe.specs.declared.found_files.FoundFiles.{FoundFiles}
use Rattle.raft_log_file_pipe.specs.declared.new_files.NewFiles.{NewFiles}
use Rattle.raft_log_file_pipe.specs.declared.pipe_files.PipeFiles.{PipeFiles}

-- the last file as the pipe lists it: if it has no header (`None`), it gets one, and is listed with version 1
abbrev pub taken_up : Option ℕ → Listed → Listed
taken_up (Some end) last = last
taken_up None last = record last { format = first_format }

-- the number of the first file of the queue: the first of the earlier ones, or the last one if there are none
abbrev pub first_number : List Listed → Listed → ℕ
first_number [] last = last.seq
first_number (f ∷ fs) last = f.seq

-- if the last file has a header (`Some end`), it is the header of the format with which the file is listed
abbrev pub HasOwnHeader : {R : Type 0} → Format R → Option ℕ → Listed → Disk → Type 0
HasOwnHeader F (Some end) last d = HandleBeginsWith F last.handle (header_bytes last.format) d
HasOwnHeader F None last d = Unit {0}

-- These files were found, and a stop left the queue `q` in them. The last file was read up to `end`. The earlier files
-- are at their paths, and the files in `kept` can be recycled.
pub record IsFound {R : Type 0} (F : Format R) (own : List ℕ → Type 0) (paths : FilePaths) (base : Disk)
    (earlier : List Listed) (last : Listed) (end : Option ℕ) (kept : List Listed) (q : LogFiles R) (d : Disk)
    : Type 0 where
  pub left : IsLeftBehind F own base last.handle end q (path_of paths last) d.names d
  pub number : last.seq ≡ q.last
  pub listed : last.reserved ≡ false
  pub headed : HasOwnHeader F end last d
  pub span : IsSpan paths d.names (first_number earlier last) earlier q.last
  pub spares : AllKept F paths (first_number earlier last) d kept

-- the lists of a pipe that has reopened these files
pub record IsListedAs (earlier : List Listed) (last : Listed) (kept : List Listed) (files : PipeFiles)
    : Type 0 where
  pub first : files.first_seq ≡ first_number earlier last
  pub before : files.earlier.items ≡ earlier
  pub active : files.active ≡ last
  pub spares : files.recycled.items ≡ kept

-- If these files of a queue were found, the pipe runs over the queue with all records that were read of it, all
-- durable. Zeros may be allocated after the records. No gap in the file numbers was filled. The file system calls are
-- those of `ReopensBy`.
abbrev pub TakesUpFound : {R : Type 0} → Format R → (List ℕ → Type 0) → FilePaths → List Listed → Listed
    → Option ℕ → List Listed → PipeFiles → Disk → Disk → Type 0
TakesUpFound {R} F own paths earlier last end kept files old new = (base : Disk) (q : LogFiles R)
    → IsFound F own paths base earlier last end kept q old
    → (room : ℕ)
    × IsPipe F own paths base files (with_room room (reread (header_bytes files.active.format) [] q)) new
    × GapsStay F q old new
    × ReopensBy last.handle end (header_bytes (taken_up end last).format) files.writer old new

-- The pipe wasn't opened. Suppose these files of a queue were found. Then a file call failed. The queue still has all
-- records that were read of it, and the earlier files are still at their paths. No gap in the file numbers was filled.
abbrev pub FailsToTakeUpFound : {R : Type 0} → Format R → (List ℕ → Type 0) → FilePaths → List Listed → Listed
    → Option ℕ → List Listed → Disk → Disk → Type 0
FailsToTakeUpFound {R} F own paths earlier last end kept old new = (base : Disk) (q : LogFiles R)
    → IsFound F own paths base earlier last end kept q old
    → Fails old new × GapsStay F q old new × IsSpan paths new.names (first_number earlier last) earlier q.last
    × IsHalfOpen F own base last.handle end (header_bytes (taken_up end last).format) q old new

-- The queue can begin on the disk `d`. Each file in `kept` can be recycled: it has a reserved name, or the number 0.
pub record CanBeginWith {R : Type 0} (F : Format R) (own : List ℕ → Type 0) (paths : FilePaths) (base : Disk)
    (kept : List Listed) (d : Disk) : Type 0 where
  pub fresh : IsFresh F own base d
  pub spares : AllKept F paths 1 d kept

-- If the queue could begin, it has begun in its file 1, without a record, and the pipe runs over it. There is no file
-- 0. The file system calls are those of `BeginsQueueBy`.
abbrev pub BeginsPipe : {R : Type 0} → Format R → (List ℕ → Type 0) → FilePaths → LogFileFormat → List Listed
    → PipeFiles → Disk → Disk → Type 0
BeginsPipe {R} F own paths format kept files old new = (base : Disk) (older : ℕ → Past R)
    → CanBeginWith F own paths base kept old
    → (room : ℕ) × IsPipe F own paths base files
    (with_room room (fresh_queue older (header_bytes format))) new × IsAbsent F 0 new
    × BeginsQueueBy (path_of paths files.active) (header_bytes format) files.active.handle files.writer
    old new

-- Beginning the queue failed. Suppose the queue could begin before. Then a file call failed. The queue can still begin,
-- or its file 1 exists without a record. There is no file 0.
abbrev pub FailsToBeginPipe : {R : Type 0} → Format R → (List ℕ → Type 0) → FilePaths → LogFileFormat
    → List Listed → Disk → Disk → Type 0
FailsToBeginPipe {R} F own paths format kept old new = (base : Disk) (older : ℕ → Past R)
    → CanBeginWith F own paths base kept old
    → Fails old new × IsHalfBegun F own base (fresh_queue older (header_bytes format)) new × IsAbsent F 0 new

-- the lists of a pipe whose queue has begun: its active file is file 1, with this format, and there are no earlier
-- files
pub record IsListedFirst (format : LogFileFormat) (kept : List Listed) (files : PipeFiles) : Type 0 where
  pub first : files.first_seq ≡ 1
  pub number : files.active.seq ≡ 1
  pub earlier : files.earlier.items ≡ []
  pub format_is : files.active.format ≡ format
  pub spares : files.recycled.items ≡ kept

-- A pipe was opened over what was found. If no file was found, the queue has begun; otherwise the queue's last file was
-- reopened.
pub data OpensPipe {R : Type 0} (F : Format R) (own : List ℕ → Type 0) (paths : FilePaths) (begin : NewFiles)
    (found : FoundFiles) (files : PipeFiles) (old new : Disk) : Type 0 where
  begins : found.files.items ≡ []
      → BeginsPipe F own paths begin.format found.recycled.items files old new
      → IsListedFirst begin.format found.recycled.items files
      → OpensPipe F own paths begin found files old new
  takes_up : (earlier : List Listed) (last : Listed) → found.files.items ≡ earlier ++ last ∷ []
      → TakesUpFound F own paths earlier last found.end found.recycled.items files old new
      → IsListedAs earlier (taken_up found.end last) found.recycled.items files
      → OpensPipe F own paths begin found files old new

-- Why a queue didn't begin, and what that leaves:
-- - `Memory`: memory ran out, and nothing was done
-- - `Io`: a file call failed, and returned this error kind
abbrev pub BeginLeaves : {R : Type 0} → Format R → (List ℕ → Type 0) → FilePaths → LogFileFormat → List Listed
    → Error → Disk → Disk → Type 0
BeginLeaves F own paths format kept errors.Memory old new = new ≡ old
BeginLeaves F own paths format kept (errors.Io kind) old new =
    ((directory : ℕ) × BeginQueueMakes (paths.numbered directory 1) (header_bytes format) kind old new)
    × FailsToBeginPipe F own paths format kept old new
BeginLeaves F own paths format kept _ old new = ⊥

-- Why the last file wasn't reopened, and what that leaves:
-- - `Memory`, or `InvalidArgument` if the file's format has an alignment: nothing was done
-- - `Io`: a file call failed, and returned this error kind
abbrev pub TakeUpLeaves : {R : Type 0} → Format R → (List ℕ → Type 0) → FilePaths → List Listed → Listed
    → Option ℕ → List Listed → Error → Disk → Disk → Type 0
TakeUpLeaves F own paths earlier last end kept errors.Memory old new = new ≡ old
TakeUpLeaves F own paths earlier last end kept (errors.InvalidArgument text) old new =
    IsAlignmentRefusal (taken_up end last).format (errors.InvalidArgument text) × (new ≡ old)
TakeUpLeaves F own paths earlier last end kept (errors.Io kind) old new =
    ReopenMakes last.handle end (header_bytes (taken_up end last).format) kind old new
    × FailsToTakeUpFound F own paths earlier last end kept old new
TakeUpLeaves F own paths earlier last end kept _ old new = ⊥

-- why no pipe was opened over what was found, and what that leaves
pub data OpenLeaves {R : Type 0} (F : Format R) (own : List ℕ → Type 0) (paths : FilePaths) (begin : NewFiles)
    (found : FoundFiles) (error : Error) (old new : Disk) : Type 0 where
  not_begun : found.files.items ≡ []
      → BeginLeaves F own paths begin.format found.recycled.items error old new
      → OpenLeaves F own paths begin found error old new
  not_taken_up : (earlier : List Listed) (last : Listed) → found.files.items ≡ earlier ++ last ∷ []
      → TakeUpLeaves F own paths earlier last found.end found.recycled.items error old new
      → OpenLeaves F own paths begin found error old new

-- Appending a record to a pipe: which calls are made, and what they leave. `before` and `after` are the pipe's files
-- before and after the append. `old` and `new` are the disk, or the file system. `begin` are the settings for new
-- files. `signed` gives the record's bytes, signed for a given file. `paths` gives the path of each file of the queue.
-- `own` says which paths are the queue's.
use Rattle.std.specs.Prelude.{◌≡◌, ◌⊎◌, ℕ, ◌+◌, ◌<◌, ◌≤◌, List, [], length}
use Rattle.std.specs.declared.io.ErrorKind.TheVariants.{StorageFull}
use Rattle.raft_log_fs.specs.Disk.{Disk}
use Rattle.raft_log_fs.specs.Causes.{IsLater}
use Rattle.raft_log_file_writer.specs.LogFormat.{Format}
use Rattle.raft_log_record_base.specs.declared.errors.Error.{Error}
use Rattle.raft_log_record_base.specs.declared.errors.Error.TheVariants as errors
use Rattle.raft_log_record_base.specs.declared.pipe_log.LogQueue.{LogQueue}
use Rattle.raft_log_record_base.specs.declared.pipe_log.FileBlockHandle.{FileBlockHandle}
use Rattle.raft_log_record_base.specs.declared.pipe_log.LogFileContext.{LogFileContext}
use Rattle.raft_log_file_format.specs.Header.{header_bytes}
use Rattle.raft_log_file_writer.specs.Writer.{WritesNext}
use Rattle.raft_log_active_file.specs.Layout.{FilePaths}
use Rattle.raft_log_active_file.specs.Exits.{AppendMakes}
use Rattle.raft_log_active_file.specs.declared.last_file.WriteFault.{WriteFault}
use Rattle.raft_log_active_file.specs.declared.last_file.WriteFault.TheVariants.{CutBack, Failed}
use Rattle.raft_log_file_pipe.specs.Placing.{IsNextPlace, IsFull}
use Rattle.raft_log_file_pipe.specs.Exits.{IsTurned, Rotates, RotationLeaves, Adds, FailsToAdd, SameLists}
use Rattle.raft_log_file_pipe.specs.declared.pipe_files.PipeFiles.{PipeFiles}
use Rattle.raft_log_file_pipe.specs.declared.new_files.NewFiles.{NewFiles}

-- the context in which a record of the active file is signed: the file's id and its format version
abbrev pub context_of : LogQueue → PipeFiles → LogFileContext
context_of queue files =
    record { id = record { queue = queue; seq = files.active.seq }; version = files.active.format.version }

-- If the active file has reached the target size, the pipe rotates before a record is written. Otherwise nothing is
-- done.
pub data TurnsFirst {R : Type 0} (F : Format R) (own : List ℕ → Type 0) (paths : FilePaths)
    (begin : NewFiles) (before after : PipeFiles) (old new : Disk) : Type 0 where
  stays : before.writer.written < begin.target_size → after ≡ before → new ≡ old
      → TurnsFirst F own paths begin before after old new
  turns : begin.target_size ≤ before.writer.written
      → Rotates F own paths (header_bytes begin.format) before after old new
      → IsTurned begin.format before after → TurnsFirst F own paths begin before after old new

-- A record was appended to the active file, after the pipe had rotated if it had to. The record is signed for this
-- file, and was written by one write at the location `block`.
pub record AppendsAt {R : Type 0} (F : Format R) (own : List ℕ → Type 0) (paths : FilePaths)
    (begin : NewFiles) (queue : LogQueue) (signed : LogFileContext → List ℕ)
    (before after : PipeFiles) (block : FileBlockHandle) (old new : Disk) : Type 0 where
  pub middle : PipeFiles
  pub between : Disk
  pub first : TurnsFirst F own paths begin before middle old between
  pub adds : Adds F own paths (signed (context_of queue middle)) block.offset middle after between new
  pub lists : SameLists middle after
  pub calls : WritesNext middle.writer after.writer (signed (context_of queue middle)) begin.target_size
      between new
  pub id : block.id ≡ record { queue = queue; seq = middle.active.seq }
  pub len : block.len ≡ length (signed (context_of queue middle))

-- the error is `TryAgain`: the caller may write the same record again, to the file into which the pipe rotated
abbrev pub SaysTryAgain : Error → Type 0
SaysTryAgain (errors.TryAgain text) = Unit {0}
SaysTryAgain _ = ⊥

-- What follows a write that ran out of space. Either the pipe rotated, and the error is `TryAgain`. Or the rotation
-- failed with this error.
pub data TurnsElsewhere {R : Type 0} (F : Format R) (own : List ℕ → Type 0) (paths : FilePaths)
    (begin : NewFiles) (before after : PipeFiles) (error : Error) (old new : Disk) : Type 0 where
  elsewhere : Rotates F own paths (header_bytes begin.format) before after old new
      → IsTurned begin.format before after → SaysTryAgain error
      → TurnsElsewhere F own paths begin before after error old new
  nowhere : RotationLeaves F own paths (header_bytes begin.format) before after error old new
      → TurnsElsewhere F own paths begin before after error old new

-- The pipe rotated, and `IsNextPlace` says in which directory the next file is. `old` and `new` are states of the file
-- system. `disk` gives the disk of a state. `tells` gives the free space that a state reports, which is no part of the
-- disk.
pub record GoesInto {R F : Type 0} (disk : F → Disk) (tells : F → List ℕ → ℕ → Type 0)
    (format : Format R) (own : List ℕ → Type 0) (paths : FilePaths) (begin : NewFiles)
    (before after : PipeFiles) (old new : F) : Type 0 where
  pub rotates : Rotates format own paths (header_bytes begin.format) before after (disk old) (disk new)
  pub turned : IsTurned begin.format before after
  pub placed : IsNextPlace (tells old) (disk old) begin.target_size paths.directories before
      after.active.path_id

-- A record's write failed for lack of space, and what was written of the record was truncated away. The pipe may have
-- rotated before the write. After the truncation it rotated as `GoesInto` says.
pub record GoesElsewhere {R F : Type 0} (disk : F → Disk) (tells : F → List ℕ → ℕ → Type 0)
    (format : Format R) (own : List ℕ → Type 0) (paths : FilePaths) (begin : NewFiles) (queue : LogQueue)
    (signed : LogFileContext → List ℕ) (before after : PipeFiles) (old new : F) : Type 0 where
  pub middle : PipeFiles
  pub cut : PipeFiles
  pub between : Disk
  pub short : F
  pub first : TurnsFirst format own paths begin before middle (disk old) between
  pub fails : FailsToAdd format own paths (signed (context_of queue middle)) (CutBack StorageFull)
      middle cut between (disk short)
  pub lists : SameLists middle cut
  pub goes : GoesInto disk tells format own paths begin cut after short new

-- A record's write failed for lack of space, and what was written of the record was truncated away. The pipe may have
-- rotated before the write. It didn't rotate after the write, as no file is kept for recycling and no directory reports
-- free space (`IsFull`).
pub record StaysFull {R F : Type 0} (disk : F → Disk) (tells : F → List ℕ → ℕ → Type 0)
    (format : Format R) (own : List ℕ → Type 0) (paths : FilePaths) (begin : NewFiles) (queue : LogQueue)
    (signed : LogFileContext → List ℕ) (before after : PipeFiles) (old new : F) : Type 0 where
  pub middle : PipeFiles
  pub between : Disk
  pub first : TurnsFirst format own paths begin before middle (disk old) between
  pub fails : FailsToAdd format own paths (signed (context_of queue middle)) (CutBack StorageFull)
      middle after between (disk new)
  pub lists : SameLists middle after
  pub none : after.recycled.items ≡ []
  pub full : IsFull (tells new) (disk new) paths

-- the number of the active file is the one from before, or at most `count` higher
abbrev pub GoesOnBy : ℕ → PipeFiles → PipeFiles → Type 0
GoesOnBy count before after =
    (before.active.seq ≤ after.active.seq) × (after.active.seq ≤ before.active.seq + count)

-- How an append ends after its write failed, by the fault.
-- - `CutBack`: either the error is `Io` with the write's error kind, and nothing more was done; or the kind is
--   `StorageFull`, and the pipe tried to rotate (`TurnsElsewhere`).
-- - `Failed`: the error is `Failed`, and nothing more was done.
abbrev pub Tells : {R : Type 0} → Format R → (List ℕ → Type 0) → FilePaths → NewFiles → WriteFault → PipeFiles
    → PipeFiles → Error → Disk → Disk → Type 0
Tells F own paths begin (CutBack kind) before after error old new =
    ((kind ≡ StorageFull) × TurnsElsewhere F own paths begin before after error old new)
    ⊎ ((error ≡ errors.Io kind) × (after ≡ before) × (new ≡ old))
Tells F own paths begin (Failed kind) before after error old new =
    (error ≡ errors.Failed) × (after ≡ before) × (new ≡ old)

-- Why a record wasn't appended, and what is left.
-- - `not_turned`: the active file has reached the target size, and the rotation failed.
-- - `not_written`: the write failed. What it wrote was truncated away, or the truncation or its sync failed too.
pub data AppendFails {R : Type 0} (F : Format R) (own : List ℕ → Type 0) (paths : FilePaths)
    (begin : NewFiles) (queue : LogQueue) (signed : LogFileContext → List ℕ)
    (before after : PipeFiles) (error : Error) (old new : Disk) : Type 0 where
  not_turned : begin.target_size ≤ before.writer.written
      → RotationLeaves F own paths (header_bytes begin.format) before after error old new
      → AppendFails F own paths begin queue signed before after error old new
  not_written : (middle cut : PipeFiles) (between short : Disk) (fault : WriteFault)
      → TurnsFirst F own paths begin before middle old between → IsLater old between
      → FailsToAdd F own paths (signed (context_of queue middle)) fault middle cut between short
      → SameLists middle cut
      → AppendMakes fault middle.writer cut.writer (signed (context_of queue middle)) begin.target_size
      between short
      → Tells F own paths begin fault cut after error short new → IsLater short new
      → AppendFails F own paths begin queue signed before after error old new

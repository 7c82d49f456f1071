-- What each call of a pipe does, on any disk: which file system calls it makes, in order, and the pipe's files after
-- the call. The definitions don't require that the files are those of a queue. `before` and `after` are the pipe's
-- files, `old` and `new` the disk. `begin` are the settings for new files. `signed` gives a record's bytes, signed for
-- a given file.
use Rattle.std.specs.Prelude.{◌≡◌, ◌⊎◌, ℕ, ◌<◌, ◌≤◌, ◌^◌, false, List, [], ◌∷◌, ◌++◌, length, suc}
use Rattle.std.specs.declared.io.ErrorKind.{ErrorKind}
use Rattle.std.specs.declared.io.ErrorKind.TheVariants.{StorageFull}
use Rattle.raft_log_fs.specs.Disk.{Disk}
use Rattle.raft_log_fs.specs.Exits.{FailsToSync}
use Rattle.raft_log_fs.specs.declared.handle.Handle.{Handle}
use Rattle.raft_log_record_base.specs.declared.errors.Error.{Error}
use Rattle.raft_log_record_base.specs.declared.errors.Error.TheVariants as errors
use Rattle.raft_log_record_base.specs.declared.pipe_log.LogQueue.{LogQueue}
use Rattle.raft_log_record_base.specs.declared.pipe_log.FileBlockHandle.{FileBlockHandle}
use Rattle.raft_log_record_base.specs.declared.pipe_log.LogFileContext.{LogFileContext}
use Rattle.raft_log_file_format.specs.Header.{header_bytes}
use Rattle.raft_log_file_format.specs.declared.header.LogFileFormat.{LogFileFormat}
use Rattle.raft_log_file_writer.specs.Writer.{WritesNext}
use Rattle.raft_log_active_file.specs.Layout.{FilePaths, path_of}
use Rattle.raft_log_active_file.specs.Exits.{AppendMakes}
use Rattle.raft_log_active_file.specs.Opening.{BeginsQueueBy}
use Rattle.raft_log_active_file.specs.TakingUp.{ReopensBy}
use Rattle.raft_log_active_file.specs.declared.last_file.WriteFault.{WriteFault}
use Rattle.raft_log_active_file.specs.declared.last_file.WriteFault.TheVariants.{CutBack, Failed}
use Rattle.raft_log_file_pipe.specs.Files.{Listed}
use Rattle.raft_log_file_pipe.specs.Calls.{TurnsBy, TurnsNot, DropsUntil}
use Rattle.raft_log_file_pipe.specs.Exits.{IsTurned, SameFiles, SameLists}
use Rattle.raft_log_file_pipe.specs.Appending.{SaysTryAgain, context_of}
use Rattle.raft_log_file_pipe.specs.Purging.{paths_going}
use Rattle.raft_log_file_pipe.specs.Opening.{IsListedAs, IsListedFirst, taken_up}
use Rattle.raft_log_file_pipe.specs.declared.found_files.FoundFiles.{FoundFiles}
use Rattle.raft_log_file_pipe.specs.declared.new_files.NewFiles.{NewFiles}
use Rattle.raft_log_file_pipe.specs.declared.pipe_files.PipeFiles.{PipeFiles}

-- A rotation.

-- The pipe rotated into the next file, by the calls that `TurnsBy` lists. The next file's name isn't a reserved one.
pub record TurnsPipeBy (paths : FilePaths) (format : LogFileFormat) (before after : PipeFiles)
    (old new : Disk) : Type 0 where
  pub turned : IsTurned format before after
  pub numbered : after.active.reserved ≡ false
  pub calls : TurnsBy paths (header_bytes format) before.recycled.items before.writer after.active after.writer
      old new

-- the oldest of these files has a number of more than sixteen digits, which no name has
abbrev pub OldestIsFar : List Listed → Type 0
OldestIsFar [] = ⊥
OldestIsFar (f ∷ fs) = 10 ^ 16 ≤ f.seq

-- Why the pipe didn't rotate.
-- - `Memory`: memory ran out, and nothing was done.
-- - `NumberRange`: the next number, or that of the file to recycle, has more than sixteen digits. Nothing was done.
-- - `Failed`: one of the calls failed, and none was made after it. This may be the call that opens the file to recycle.
abbrev pub FailsToTurnBy : FilePaths → LogFileFormat → PipeFiles → PipeFiles → Error → Disk → Disk → Type 0
FailsToTurnBy paths format before after errors.Memory old new = SameFiles before after × (new ≡ old)
FailsToTurnBy paths format before after errors.NumberRange old new =
    ((10 ^ 16 ≤ suc before.active.seq) ⊎ OldestIsFar before.recycled.items) × SameFiles before after
    × (new ≡ old)
FailsToTurnBy paths format before after errors.Failed old new = SameLists before after
    × TurnsNot paths (header_bytes format) before.recycled.items before.writer (suc before.active.seq) old new
FailsToTurnBy paths format before after _ old new = ⊥

-- An append.

-- if the active file has reached the target size, the pipe rotates before a record is written; otherwise nothing is
-- done
pub data TurnsFirstBy (paths : FilePaths) (begin : NewFiles) (before after : PipeFiles) (old new : Disk)
    : Type 0 where
  stays : before.writer.written < begin.target_size → after ≡ before → new ≡ old
      → TurnsFirstBy paths begin before after old new
  turns : begin.target_size ≤ before.writer.written → TurnsPipeBy paths begin.format before after old new
      → TurnsFirstBy paths begin before after old new

-- A record was written to the active file at the writer's offset, after the pipe had rotated if it had to. The record
-- is signed for this file. `block` has the file's number, the offset, and the length of the record.
pub record AppendsBy (paths : FilePaths) (begin : NewFiles) (queue : LogQueue)
    (signed : LogFileContext → List ℕ) (before after : PipeFiles) (block : FileBlockHandle) (old new : Disk)
    : Type 0 where
  pub middle : PipeFiles
  pub between : Disk
  pub first : TurnsFirstBy paths begin before middle old between
  pub lists : SameLists middle after
  pub calls : WritesNext middle.writer after.writer (signed (context_of queue middle)) begin.target_size
      between new
  pub id : block.id ≡ record { queue = queue; seq = middle.active.seq }
  pub offset : block.offset ≡ middle.writer.written
  pub len : block.len ≡ length (signed (context_of queue middle))

-- the pipe rotated, and the error is `TryAgain`; or the rotation failed with this error
abbrev pub TurnsElsewhereBy : FilePaths → LogFileFormat → PipeFiles → PipeFiles → Error → Disk → Disk
    → Type 0
TurnsElsewhereBy paths format before after error old new =
    (SaysTryAgain error × TurnsPipeBy paths format before after old new)
    ⊎ FailsToTurnBy paths format before after error old new

-- How an append ends after its write failed, by the fault.
-- - `CutBack`: either the error is `Io` with the write's error kind, and nothing more was done; or the kind is
--   `StorageFull`, and the pipe tried to rotate (`TurnsElsewhereBy`).
-- - `Failed`: the error is `Failed`, and nothing more was done.
abbrev pub TellsBy : FilePaths → LogFileFormat → WriteFault → PipeFiles → PipeFiles → Error → Disk → Disk
    → Type 0
TellsBy paths format (CutBack kind) before after error old new =
    ((kind ≡ StorageFull) × TurnsElsewhereBy paths format before after error old new)
    ⊎ ((error ≡ errors.Io kind) × (after ≡ before) × (new ≡ old))
TellsBy paths format (Failed kind) before after error old new =
    (error ≡ errors.Failed) × (after ≡ before) × (new ≡ old)

-- Why a record wasn't written.
-- - `not_turned`: the active file has reached the target size, and the rotation failed.
-- - `not_written`: the write failed. Then the file was truncated at the writer's offset and synced, or one of these
-- calls failed too.
pub data FailsToAppendBy (paths : FilePaths) (begin : NewFiles) (queue : LogQueue)
    (signed : LogFileContext → List ℕ) (before after : PipeFiles) (error : Error) (old new : Disk)
    : Type 0 where
  not_turned : begin.target_size ≤ before.writer.written
      → FailsToTurnBy paths begin.format before after error old new
      → FailsToAppendBy paths begin queue signed before after error old new
  not_written : (middle cut : PipeFiles) (between short : Disk) (fault : WriteFault)
      → TurnsFirstBy paths begin before middle old between → SameLists middle cut
      → AppendMakes fault middle.writer cut.writer (signed (context_of queue middle)) begin.target_size
      between short
      → TellsBy paths begin.format fault cut after error short new
      → FailsToAppendBy paths begin queue signed before after error old new

-- A sync, a purge and an open.

-- the sync of the handle's file failed, and no other call was made
abbrev pub FailsToSyncBy : Handle → Disk → Disk → Type 0
FailsToSyncBy handle old new = (error : ErrorKind) × FailsToSync handle error old new

-- What a purge did on the disk if it failed with this error. `Memory`, `Other`, `NumberRange`: nothing. `Failed`: it
-- deleted the files to delete, in order, up to one whose deletion failed.
abbrev pub FailsToPurgeBy : FilePaths → ℕ → ℕ → PipeFiles → Error → Disk → Disk → Type 0
FailsToPurgeBy paths capacity seq before errors.Memory old new = new ≡ old
FailsToPurgeBy paths capacity seq before (errors.Other fault) old new = new ≡ old
FailsToPurgeBy paths capacity seq before errors.NumberRange old new = new ≡ old
FailsToPurgeBy paths capacity seq before errors.Failed old new =
    DropsUntil (paths_going paths capacity seq before) old new
FailsToPurgeBy paths capacity seq before _ old new = ⊥

-- The pipe was opened with these lists of files. If no file was found, file 1 was created and got its header.
-- Otherwise the last file that was found was truncated after its records and synced, and the pipe continues there.
pub data OpensPipeBy (paths : FilePaths) (format : LogFileFormat) (found : FoundFiles) (files : PipeFiles)
    (old new : Disk) : Type 0 where
  begins : found.files.items ≡ [] → IsListedFirst format found.recycled.items files
      → files.active.reserved ≡ false
      → BeginsQueueBy (path_of paths files.active) (header_bytes format) files.active.handle files.writer
      old new
      → OpensPipeBy paths format found files old new
  takes_up : (earlier : List Listed) (last : Listed) → found.files.items ≡ earlier ++ last ∷ []
      → IsListedAs earlier (taken_up found.end last) found.recycled.items files
      → ReopensBy last.handle found.end (header_bytes (taken_up found.end last).format) files.writer old new
      → OpensPipeBy paths format found files old new

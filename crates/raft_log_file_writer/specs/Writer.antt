-- The writer of one log file: its offset, its capacity, and the effects of each call. The capacity is an upper bound on
-- the file's length.
use Rattle.std.specs.Prelude.{◌≡◌, ℕ, ◌+◌, ◌-◌, ◌<◌, ◌≤◌, ◌++◌, Bool, true, false, Some, None, List, length, nat_lt, if◌then◌else◌, ◌||◌}
use Rattle.std.proofs.Common.{min, max}
use Rattle.std.specs.declared.io.ErrorKind.{ErrorKind}
use Rattle.raft_log_fs.specs.Disk.{File, Disk, at_rest}
use Rattle.raft_log_fs.specs.Causes.{Fails}
use Rattle.raft_log_fs.specs.Reading.{IsNotMeasured}
use Rattle.raft_log_fs.specs.Exits.{Writes, FailsToWrite, Shortens, FailsToShorten, Grows, FailsToGrow, Syncs, FailsToSync}
use Rattle.raft_log_file_writer.specs.LogQueue.{HeaderStands}
use Rattle.raft_log_fs.specs.Touching.{HasFile}
use Rattle.raft_log_fs.specs.declared.handle.Handle.{Handle}
use Rattle.raft_log_fs.specs.declared.handle.Permission.TheVariants.{ReadWrite}
use Rattle.raft_log_file_writer.specs.declared.writer.LogFileWriter.{LogFileWriter}

-- The bytes of the writer's file.

-- The writer's file exists, and the writer's handle may write it. Up to the writer's offset the file has exactly
-- `bytes`, and anything may follow. The file is at most as long as the writer's capacity.
pub record IsWritten (writer : LogFileWriter) (bytes : List ℕ) (d : Disk) : Type 0 where
  pub permitted : writer.handle.permission ≡ ReadWrite
  pub offset : writer.written ≡ length bytes
  pub file : File
  pub is : d.files writer.handle.file ≡ Some file
  pub behind : List ℕ
  pub content : file.content ≡ bytes ++ behind
  pub end : length file.content ≤ writer.capacity

-- `bytes` are all bytes of the writer's file, and the writer's offset is at their end
abbrev pub AreItsBytes : LogFileWriter → List ℕ → Disk → Type 0
AreItsBytes writer bytes d = IsWritten writer bytes d
    × HasFile writer.handle.file (λ file. file.content ≡ bytes) d

-- `bytes` are all bytes of the writer's file, all synced, and the writer's offset is at their end
abbrev pub IsClosed : LogFileWriter → List ℕ → Disk → Type 0
IsClosed writer bytes d = IsWritten writer bytes d × (d.files writer.handle.file ≡ Some (at_rest bytes))

-- The file begins with `bytes` after any stop: they are synced, and no unsynced change touches them.
abbrev pub IsDurable : List ℕ → File → Type 0
IsDurable bytes file = HeaderStands bytes file

-- up to the writer's offset, the file has exactly `bytes`, and they are durable
abbrev pub IsSynced : LogFileWriter → List ℕ → Disk → Type 0
IsSynced writer bytes d = IsWritten writer bytes d × HasFile writer.handle.file (IsDurable bytes) d

-- bytes that were durable are still durable, if they end at or before the writer's offset
abbrev pub DurableStays : LogFileWriter → Disk → Disk → Type 0
DurableStays writer old new = (bytes : List ℕ) → length bytes ≤ writer.written
    → HasFile writer.handle.file (IsDurable bytes) old → HasFile writer.handle.file (IsDurable bytes) new

-- A call failed. If the file had `bytes` up to the writer's offset, it still has them, and the failure was counted or
-- the file system has stopped.
abbrev pub KeepsWritten : LogFileWriter → LogFileWriter → Disk → Disk → Type 0
KeepsWritten before after old new =
    (bytes : List ℕ) → IsWritten before bytes old → IsWritten after bytes new × Fails old new

-- the writer has this handle, this offset and this capacity
pub record IsWriterAt (writer : LogFileWriter) (handle : Handle) (written capacity : ℕ) : Type 0 where
  pub handle_is : writer.handle ≡ handle
  pub written_is : writer.written ≡ written
  pub capacity_is : writer.capacity ≡ capacity

-- Writing: which calls are made, in which order.

-- How many bytes are allocated after `capacity` for a write that ends at `end`. `target` is the size that the file is
-- expected to reach. The result is the larger of `end - capacity` and `target - capacity`, the latter limited to 2 MiB.
abbrev pub allocated : ℕ → ℕ → ℕ → ℕ
allocated capacity end target = max (end - capacity) (min 2097152 (target - capacity))

-- the capacity after space was made for a write that ends at `end`
abbrev pub reach : ℕ → ℕ → ℕ → ℕ
reach capacity end target = if nat_lt capacity end then capacity + allocated capacity end target else capacity

-- Space is made for a write that ends at `end`, in a file that is at most `capacity` bytes long. If `end` is beyond
-- `capacity`, as much space as `allocated` says is allocated before the write. A failure to allocate is ignored.
pub data MakesRoom (handle : Handle) (capacity end target : ℕ) (old new : Disk) : Type 0 where
  is_there : end ≤ capacity → new ≡ old → MakesRoom handle capacity end target old new
  is_allocated : capacity < end → Grows handle (capacity + allocated capacity end target) old new
      → MakesRoom handle capacity end target old new
  is_refused : capacity < end → (error : ErrorKind)
      → FailsToGrow handle (capacity + allocated capacity end target) error old new
      → MakesRoom handle capacity end target old new

-- space was made for `bytes` at the offset `at`, and then they were written there
pub record WritesAtPlace (handle : Handle) (at capacity : ℕ) (bytes : List ℕ) (target : ℕ) (old new : Disk)
    : Type 0 where
  pub between : Disk
  pub room : MakesRoom handle capacity (at + length bytes) target old between
  pub writes : Writes handle at bytes between new

-- space was made for `bytes` at the offset `at`, but writing them failed
pub record FailsToWriteAt (handle : Handle) (at capacity : ℕ) (bytes : List ℕ) (target : ℕ)
    (error : ErrorKind) (old new : Disk) : Type 0 where
  pub between : Disk
  pub room : MakesRoom handle capacity (at + length bytes) target old between
  pub fails : FailsToWrite handle at bytes error between new

-- `bytes` were written at the writer's offset, which is now after them
pub record WritesNext (before after : LogFileWriter) (bytes : List ℕ) (target : ℕ) (old new : Disk)
    : Type 0 where
  pub calls : WritesAtPlace before.handle before.written before.capacity bytes target old new
  pub moved : IsWriterAt after before.handle (before.written + length bytes)
      (reach before.capacity (before.written + length bytes) target)

-- Writing `bytes` at the writer's offset failed, and the offset is unchanged. The capacity is raised as for a
-- successful write.
pub record FailsToWriteNext (before after : LogFileWriter) (bytes : List ℕ) (target : ℕ)
    (error : ErrorKind) (old new : Disk) : Type 0 where
  pub calls : FailsToWriteAt before.handle before.written before.capacity bytes target error old new
  pub stays : IsWriterAt after before.handle before.written
      (reach before.capacity (before.written + length bytes) target)

-- Truncating.

-- the file was truncated at the writer's offset if the writer's capacity is beyond it; otherwise no call was made
pub data CutsBehind (before after : LogFileWriter) (old new : Disk) : Type 0 where
  ends_there : before.capacity ≤ before.written → after ≡ before → new ≡ old → CutsBehind before after old new
  is_cut : before.written < before.capacity → Shortens before.handle before.written old new
      → IsWriterAt after before.handle before.written before.written
      → CutsBehind before after old new

-- the file may be longer than the writer's offset, and truncating it there failed
pub record FailsToCutBehind (before after : LogFileWriter) (error : ErrorKind) (old new : Disk) : Type 0 where
  pub longer : before.written < before.capacity
  pub fails : FailsToShorten before.handle before.written error old new
  pub same : after ≡ before

-- the file was truncated at the writer's offset, unless it ended there already, and then synced
pub record Closes (before after : LogFileWriter) (old new : Disk) : Type 0 where
  pub between : Disk
  pub cuts : CutsBehind before after old between
  pub syncs : Syncs before.handle between new

-- the truncation of the file failed, and no sync was tried; or the sync after it failed
pub data FailsToClose (before after : LogFileWriter) (error : ErrorKind) (old new : Disk) : Type 0 where
  not_cut : FailsToCutBehind before after error old new → FailsToClose before after error old new
  not_synced : (between : Disk) → CutsBehind before after old between
      → FailsToSync before.handle error between new → FailsToClose before after error old new

-- Opening a writer.

-- whether opening a writer writes a header: the file is to be reset, or it is shorter than the header
abbrev pub needs_header : List ℕ → Bool → List ℕ → Bool
needs_header header reset content = reset || nat_lt (length content) (length header)

-- the bytes up to the writer's offset after the writer was opened: only the header if it was written, otherwise all the
-- content
abbrev pub taken_up : List ℕ → Bool → List ℕ → List ℕ
taken_up header reset content = if needs_header header reset content then header else content

-- A writer was opened:
-- - `goes_on`: the file needs no header. The writer continues at the file's end, and no call changed the file.
-- - `begins`: the header was written at offset 0, and the writer continues after it.
pub data TakesUp (handle : Handle) (header : List ℕ) (reset : Bool) (writer : LogFileWriter) (old new : Disk)
    : Type 0 where
  goes_on : (file : File) → old.files handle.file ≡ Some file → needs_header header reset file.content ≡ false
      → new ≡ old → IsWriterAt writer handle (length file.content) (length file.content)
      → TakesUp handle header reset writer old new
  begins : (file : File) → old.files handle.file ≡ Some file → needs_header header reset file.content ≡ true
      → WritesAtPlace handle 0 (length file.content) header 0 old new
      → IsWriterAt writer handle (length header) (reach (length file.content) (length header) 0)
      → TakesUp handle header reset writer old new

-- Opening a writer failed: the file's size couldn't be read, or the file needs a header and writing it failed.
pub data FailsToTakeUp (handle : Handle) (header : List ℕ) (reset : Bool) (error : ErrorKind) (old new : Disk)
    : Type 0 where
  not_measured : IsNotMeasured handle old error → new ≡ old
      → FailsToTakeUp handle header reset error old new
  not_begun : (file : File) → old.files handle.file ≡ Some file
      → needs_header header reset file.content ≡ true
      → FailsToWriteAt handle 0 (length file.content) header 0 error old new
      → FailsToTakeUp handle header reset error old new

-- the handle's file exists, and the handle may write it
pub record CanBeTakenUp (handle : Handle) (d : Disk) : Type 0 where
  pub permitted : handle.permission ≡ ReadWrite
  pub there : d.files handle.file ≡ None → ⊥

-- If the handle's file existed on disk `old` and the handle may write it, it has these bytes up to the opened writer's
-- offset: only the header if the header was written, and otherwise all its old content.
abbrev pub IsTakenUp : Handle → List ℕ → Bool → LogFileWriter → Disk → Disk → Type 0
IsTakenUp handle header reset writer old new = (file : File) → handle.permission ≡ ReadWrite
    → old.files handle.file ≡ Some file → IsWritten writer (taken_up header reset file.content) new

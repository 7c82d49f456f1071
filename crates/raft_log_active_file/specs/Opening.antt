-- What is on disk after an attempt to begin a queue.
use Rattle.std.specs.Prelude.{◌≡◌, ℕ, ◌⊎◌, Some, List}
use Rattle.std.specs.Map.{update}
use Rattle.std.specs.Str.{bytes_eq}
use Rattle.std.specs.declared.io.ErrorKind.{ErrorKind}
use Rattle.raft_log_fs.specs.Disk.{File, Disk}
use Rattle.raft_log_fs.specs.Causes.{Fails}
use Rattle.raft_log_fs.specs.Calls.{Creates}
use Rattle.raft_log_fs.specs.Exits.{FailsToCreate}
use Rattle.raft_log_file_writer.specs.LogFormat.{Format}
use Rattle.raft_log_file_writer.specs.LogQueue.{Past, LogFiles, IsAbsent}
use Rattle.raft_log_fs.specs.declared.handle.Handle.{Handle}
use Rattle.raft_log_fs.specs.declared.handle.Permission.TheVariants.{ReadWrite}
use Rattle.raft_log_file_writer.specs.declared.writer.LogFileWriter.{LogFileWriter}
use Rattle.raft_log_active_file.specs.Queue.{with_room}
use Rattle.raft_log_active_file.specs.Beginning.{IsFresh, fresh_queue}
use Rattle.raft_log_active_file.specs.Exits.{BeginMakes, BeginsBy, IsOpen}
use Rattle.raft_log_active_file.specs.Rotation.{StandsWithRecords}

-- each file that was in `old` is in `new` with the same state
abbrev pub AllFilesStay : Disk → Disk → Type 0
AllFilesStay old new = (id : ℕ) (file : File) → old.files id ≡ Some file → new.files id ≡ Some file

-- the queue may begin on the disk `d`, with this header, in its file 1 at this path
pub record CanBegin {R : Type 0} (F : Format R) (own : List ℕ → Type 0) (base : Disk)
    (header path : List ℕ) (d : Disk) : Type 0 where
  pub fresh : IsFresh F own base d
  pub header_is : F.IsHeader header
  pub path_is : F.IsPath 1 path

-- If the queue could begin before the call (`CanBegin`), it now has its file 1 at this path, open to the writer. The
-- file has the header and no record; zeros may be allocated after the header. The handle may write the file. There is
-- no file 0.
abbrev pub BeginsQueue : {R : Type 0} → Format R → (List ℕ → Type 0) → List ℕ → List ℕ → Handle
    → LogFileWriter → Disk → Disk → Type 0
BeginsQueue {R} F own header path handle writer old new = (base : Disk) (older : ℕ → Past R)
    → CanBegin F own base header path old
    → (handle.permission ≡ ReadWrite) × (room : ℕ)
    × IsOpen F own base writer (with_room room (fresh_queue older header)) path
    (update bytes_eq old.names path (Some handle.file)) new × IsAbsent F 0 new

-- Either the queue may still begin, or the files of `q` are on the disk and its last file holds its records. In the
-- second case zeros may be allocated after the records.
abbrev pub IsHalfBegun : {R : Type 0} → Format R → (List ℕ → Type 0) → Disk → LogFiles R → Disk → Type 0
IsHalfBegun F own base q d = IsFresh F own base d ⊎ ((room : ℕ) × StandsWithRecords F own base (with_room room q) d)

-- The call to begin the queue failed. Suppose the queue could begin before the call. Then a file call failed, and there
-- is no file 0. Either the queue may still begin, or its file 1 exists without a record.
abbrev pub FailsToBeginQueue : {R : Type 0} → Format R → (List ℕ → Type 0) → List ℕ → List ℕ → Disk → Disk
    → Type 0
FailsToBeginQueue {R} F own header path old new = (base : Disk) (older : ℕ → Past R)
    → CanBegin F own base header path old
    → Fails old new × IsHalfBegun F own base (fresh_queue older header) new × IsAbsent F 0 new

-- the calls that begin a queue: its file 1 is created, then gets its header, and is synced
pub record BeginsQueueBy (path header : List ℕ) (handle : Handle) (writer : LogFileWriter) (old new : Disk)
    : Type 0 where
  pub made : Disk
  pub creates : Creates path handle.file old made
  pub begins : BeginsBy handle header writer made new

-- a queue didn't begin: creating its file failed, or that file didn't get its header; `error` is the error of the
-- failed call
abbrev pub BeginQueueMakes : List ℕ → List ℕ → ErrorKind → Disk → Disk → Type 0
BeginQueueMakes path header error old new = FailsToCreate path error old new
    ⊎ ((handle : Handle) × (made : Disk) × Creates path handle.file old made
    × BeginMakes handle header error made new)

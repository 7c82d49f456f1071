-- What is on disk after an attempt to reopen the last file of a queue. The call truncates the file after its last whole
-- record and syncs it. The writer continues at the file's new end. `F`, `own`, `base` and `N` are as in `Exits`.
use Rattle.std.specs.Prelude.{◌≡◌, ℕ, ◌⊎◌, false, Option, Some, None, List, [], unwrap_or}
use Rattle.std.specs.declared.io.ErrorKind.{ErrorKind}
use Rattle.raft_log_fs.specs.Disk.{Disk, at_rest, grown}
use Rattle.raft_log_fs.specs.Causes.{Fails}
use Rattle.raft_log_fs.specs.Exits.{Shortens, FailsToShorten, Syncs, FailsToSync}
use Rattle.raft_log_file_writer.specs.LogFormat.{Format, HasHeader}
use Rattle.raft_log_file_writer.specs.LogQueue.{LogFiles, IsLeftover, IsPast, recent}
use Rattle.raft_log_fs.specs.Touching.{HasFile}
use Rattle.raft_log_fs.specs.declared.handle.Handle.{Handle}
use Rattle.raft_log_fs.specs.declared.handle.Permission.TheVariants.{ReadWrite}
use Rattle.raft_log_file_writer.specs.Writer.{FailsToTakeUp, TakesUp}
use Rattle.raft_log_file_writer.specs.declared.writer.LogFileWriter.{LogFileWriter}
use Rattle.raft_log_active_file.specs.Queue.{finished, with_room}
use Rattle.raft_log_active_file.specs.Standing.{Names, Stands}
use Rattle.raft_log_active_file.specs.Reopening.{IsReadTo, reread}
use Rattle.raft_log_active_file.specs.Exits.{BeginMakes, BeginsBy, IsOpen}
use Rattle.raft_log_active_file.specs.Rotation.{StandsWithRecords}

-- The queue's files are on the disk `d` as a stop left them. Its last file was read up to `end`, and the handle may
-- write this file.
pub record IsLeftBehind {R : Type 0} (F : Format R) (own : List ℕ → Type 0) (base : Disk) (handle : Handle)
    (end : Option ℕ) (q : LogFiles R) (path : List ℕ) (N : Names) (d : Disk) : Type 0 where
  pub permitted : handle.permission ≡ ReadWrite
  pub stands : Stands F own base q path handle.file (IsLeftover F q) N d
  pub read : HasFile handle.file (IsReadTo F q.last end) d

-- the handle's file begins with this header
abbrev pub HandleBeginsWith : {R : Type 0} → Format R → Handle → List ℕ → Disk → Type 0
HandleBeginsWith F handle header d = HasFile handle.file (λ file. HasHeader F header file.content) d

-- `front` is the header that the queue's last file has from now on. With `Some end`, it is the header that the file
-- begins with. With `None`, the file has no header, and gets `header`.
abbrev pub GoesOnBehind : {R : Type 0} → Format R → Handle → Option ℕ → List ℕ → Disk → List ℕ → Type 0
GoesOnBehind F handle (Some end) header d front = HandleBeginsWith F handle front d
GoesOnBehind F handle None header d front = front ≡ header

-- Truncating what a stop left.

-- the file was truncated to a size, and synced
pub record Trims (handle : Handle) (size : ℕ) (old new : Disk) : Type 0 where
  pub cut : Disk
  pub shortens : Shortens handle size old cut
  pub syncs : Syncs handle cut new

-- the truncation failed, or the sync after it; `error` is the error of that call
pub data TrimMakes (handle : Handle) (size : ℕ) (error : ErrorKind) (old new : Disk) : Type 0 where
  uncut : FailsToShorten handle size error old new → TrimMakes handle size error old new
  unsynced : (cut : Disk) → Shortens handle size old cut → FailsToSync handle error cut new
      → TrimMakes handle size error old new

-- The queue's last file was truncated and synced. With `Some end`, it has exactly its header and its records, all
-- durable. With `None`, it had no header and so no record, and is empty.
abbrev pub IsTrimmed : {R : Type 0} → Format R → (List ℕ → Type 0) → Disk → Handle → Option ℕ → LogFiles R
    → List ℕ → Names → Disk → Disk → Type 0
IsTrimmed F own base handle (Some end) q path N old new = (front : List ℕ) × HandleBeginsWith F handle front old
    × Stands F own base (reread front [] q) path handle.file
    (IsPast F q.last (finished (reread front [] q))) N new
IsTrimmed F own base handle None q path N old new = (recent q ≡ [])
    × Stands F own base q path handle.file (λ file. file ≡ at_rest []) N new

-- `stale`, the stale bytes of the handle's file, are either all bytes that the file has on the disk `d`, or only zeros
abbrev pub IsWhatItHeld : Handle → List ℕ → Disk → Type 0
IsWhatItHeld handle stale d = HasFile handle.file (λ file. stale ≡ file.content) d
    ⊎ ((room : ℕ) × (stale ≡ grown room []))

-- The queue's files are on the disk `new`. Its last file has all records that were read of it, and they are durable.
-- The file's header is the one that it had on the disk `old`, or `header` if it had none.
abbrev pub IsHalfOpen : {R : Type 0} → Format R → (List ℕ → Type 0) → Disk → Handle → Option ℕ → List ℕ
    → LogFiles R → Disk → Disk → Type 0
IsHalfOpen F own base handle end header q old new = (front stale : List ℕ)
    × GoesOnBehind F handle end header old front × IsWhatItHeld handle stale old
    × StandsWithRecords F own base (reread front stale q) new

-- If the queue was as a stop left it, its last file was truncated and synced as `IsTrimmed` says. It was truncated
-- after its records, or to nothing if it had no header.
abbrev pub TrimsLeftover : {R : Type 0} → Format R → (List ℕ → Type 0) → Handle → Option ℕ → Disk → Disk
    → Type 0
TrimsLeftover {R} F own handle end old new = (base : Disk) (q : LogFiles R) (path : List ℕ) (N : Names)
    → IsLeftBehind F own base handle end q path N old
    → IsTrimmed F own base handle end q path N old new

-- Truncating the queue's last file failed. Suppose the queue was as a stop left it. Then a file call failed, and the
-- queue still has all records that were read. If the last file had no header, any `header` may count as its header.
abbrev pub FailsToTrim : {R : Type 0} → Format R → (List ℕ → Type 0) → Handle → Option ℕ → Disk → Disk
    → Type 0
FailsToTrim {R} F own handle end old new = (base : Disk) (q : LogFiles R) (path : List ℕ) (N : Names)
    → IsLeftBehind F own base handle end q path N old
    → Fails old new
    × ((header : List ℕ) → F.IsHeader header → IsHalfOpen F own base handle end header q old new)

-- Reopening the file.

-- No writer was opened after the truncation: the file's size couldn't be read, or the file has no header and didn't get
-- one. `error` is the error of the call that failed.
abbrev pub TakeUpMakes : Handle → Option ℕ → List ℕ → ErrorKind → Disk → Disk → Type 0
TakeUpMakes handle (Some end) header error old new = FailsToTakeUp handle [] false error old new
TakeUpMakes handle None header error old new = BeginMakes handle header error old new

-- How a writer is opened after the truncation. If the file has a header, the writer continues at the file's end, and no
-- call changes the file. Otherwise the file gets its header.
abbrev pub TakesUpBy : Handle → Option ℕ → List ℕ → LogFileWriter → Disk → Disk → Type 0
TakesUpBy handle (Some end) header writer old new = TakesUp handle [] false writer old new
TakesUpBy handle None header writer old new = BeginsBy handle header writer old new

-- The calls that reopen a file. The file is truncated at `end`, or at 0 if it has no header, and synced. Then a writer
-- is opened.
pub record ReopensBy (handle : Handle) (end : Option ℕ) (header : List ℕ) (writer : LogFileWriter)
    (old new : Disk) : Type 0 where
  pub trimmed : Disk
  pub trims : Trims handle (unwrap_or end 0) old trimmed
  pub takes : TakesUpBy handle end header writer trimmed new

-- A file wasn't reopened: truncating or syncing it failed, or opening its writer after that. `error` is the error of
-- the call that failed.
pub data ReopenMakes (handle : Handle) (end : Option ℕ) (header : List ℕ) (error : ErrorKind)
    (old new : Disk) : Type 0 where
  not_trimmed : TrimMakes handle (unwrap_or end 0) error old new → ReopenMakes handle end header error old new
  not_taken_up : (trimmed : Disk) → Trims handle (unwrap_or end 0) old trimmed
      → TakeUpMakes handle end header error trimmed new → ReopenMakes handle end header error old new

-- If the queue was as a stop left it, it can be appended to. All records that were read are durable, and the writer has
-- the queue's last file open. Zeros may be allocated after the records.
abbrev pub Reopens : {R : Type 0} → Format R → (List ℕ → Type 0) → Handle → Option ℕ → List ℕ
    → LogFileWriter → Disk → Disk → Type 0
Reopens {R} F own handle end header writer old new = (base : Disk) (q : LogFiles R) (path : List ℕ)
    (N : Names)
    → F.IsHeader header → IsLeftBehind F own base handle end q path N old
    → (front : List ℕ) × (room : ℕ) × GoesOnBehind F handle end header old front
    × IsOpen F own base writer (with_room room (reread front [] q)) path N new

-- The last file wasn't reopened. Suppose the queue was as a stop left it. Then a file call failed, and the queue still
-- has all records that were read.
abbrev pub FailsToReopen : {R : Type 0} → Format R → (List ℕ → Type 0) → Handle → Option ℕ → List ℕ → Disk
    → Disk → Type 0
FailsToReopen {R} F own handle end header old new = (base : Disk) (q : LogFiles R) (path : List ℕ)
    (N : Names)
    → F.IsHeader header → IsLeftBehind F own base handle end q path N old
    → Fails old new × IsHalfOpen F own base handle end header q old new

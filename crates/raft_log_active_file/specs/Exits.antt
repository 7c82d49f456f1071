-- What is on disk after each call on the last file of a queue, whether the call succeeds or fails. `F` is the format of
-- the files. `own` says which paths are the queue's; since the disk `base`, only these paths and their files have
-- changed. `N` gives the node number of each path's file.
use Rattle.std.specs.Prelude.{◌≡◌, ℕ, ◌⊎◌, true, List, [], ◌∷◌, length}
use Rattle.raft_log_fs.specs.Disk.{Disk}
use Rattle.raft_log_fs.specs.Causes.{Fails}
use Rattle.raft_log_fs.specs.Exits.{FailsToSync, Syncs}
use Rattle.std.specs.declared.io.ErrorKind.{ErrorKind}
use Rattle.raft_log_file_writer.specs.LawsChains.{Written}
use Rattle.raft_log_file_writer.specs.LogFormat.{Format}
use Rattle.raft_log_file_writer.specs.LogQueue.{LogFiles, HoldsLast}
use Rattle.raft_log_fs.specs.declared.handle.Handle.{Handle}
use Rattle.raft_log_fs.specs.declared.handle.Permission.TheVariants.{ReadWrite}
use Rattle.raft_log_file_writer.specs.Writer.{Closes, FailsToClose, FailsToWriteNext, FailsToTakeUp, TakesUp}
use Rattle.raft_log_file_writer.specs.declared.writer.LogFileWriter.{LogFileWriter}
use Rattle.raft_log_active_file.specs.Queue.{whole, with_more, with_room, settled, synced, begun}
use Rattle.raft_log_active_file.specs.States.{IsNew}
use Rattle.raft_log_active_file.specs.Standing.{Names, Stands}
use Rattle.raft_log_active_file.specs.LastFile.{IsActiveTo, IsPastTo}
use Rattle.raft_log_active_file.specs.declared.last_file.WriteFault.{WriteFault}
use Rattle.raft_log_active_file.specs.declared.last_file.WriteFault.TheVariants.{CutBack, Failed}

-- The queue is open to the writer: its files are on the disk, and its last file, at `path`, is active (`IsActive`). The
-- writer's offset is after the records, and its capacity is no less than the file's length.
pub record IsOpen {R : Type 0} (F : Format R) (own : List ℕ → Type 0) (base : Disk)
    (writer : LogFileWriter) (q : LogFiles R)
    (path : List ℕ) (N : Names) (d : Disk) : Type 0 where
  pub permitted : writer.handle.permission ≡ ReadWrite
  pub written : writer.written ≡ length (whole q)
  pub stands : Stands F own base q path writer.handle.file (IsActiveTo F writer.capacity q) N d

-- The queue's files are on the disk, and its last file is finished: it has exactly its header and its records, all
-- synced. The writer's offset is at the file's end.
pub record IsFinished {R : Type 0} (F : Format R) (own : List ℕ → Type 0) (base : Disk)
    (writer : LogFileWriter) (q : LogFiles R)
    (path : List ℕ) (N : Names) (d : Disk) : Type 0 where
  pub permitted : writer.handle.permission ≡ ReadWrite
  pub written : writer.written ≡ length (whole q)
  pub stands : Stands F own base q path writer.handle.file (IsPastTo F writer.capacity q) N d

-- The queue's files are on the disk. A stop without a CRC collision leaves all durable records of the last file and a
-- prefix of the pending ones (`HoldsLast`). What else the file has isn't known.
abbrev pub IsHeld : {R : Type 0} → Format R → (List ℕ → Type 0) → Disk → LogFileWriter → LogFiles R
    → List ℕ → Names → Disk → Type 0
IsHeld F own base writer q path N d = Stands F own base q path writer.handle.file (HoldsLast F q) N d

-- Suppose a queue was open to the writer, and `bytes` encode a record in the queue's last file. Then this record was
-- appended, and is the last pending one. Zeros may have been allocated after the record.
abbrev pub AppendsRecord : {R : Type 0} → Format R → (List ℕ → Type 0) → List ℕ → LogFileWriter → LogFileWriter
    → Disk → Disk → Type 0
AppendsRecord {R} F own bytes before after old new = (base : Disk) (q : LogFiles R) (w : Written R)
    (path : List ℕ) (N : Names)
    → F.IsFrame q.last q.header w.bytes w.value → w.bytes ≡ bytes → IsOpen F own base before q path N old
    → (room : ℕ) × IsOpen F own base after (with_more (w ∷ []) (with_room room q)) path N new

-- What a failed write of the record `w` leaves.
-- - `CutBack`: the file was truncated after the records before `w`, and synced. These records are durable.
-- - `Failed`: the truncation, or the sync after it, failed too. `w` may be on disk, and counts as the last pending one.
abbrev pub AppendLeaves : {R : Type 0} → Format R → (List ℕ → Type 0) → WriteFault → Disk → Written R
    → LogFiles R → LogFileWriter → LogFileWriter
    → List ℕ → Names → Disk → Type 0
AppendLeaves F own (CutBack kind) base w q before after path N new = IsOpen F own base after
    (settled q) path N new
AppendLeaves F own (Failed kind) base w q before after path N new = (room : ℕ) × IsHeld F own base before
    (with_more (w ∷ []) (with_room room q)) path N new

-- The record that `bytes` encode wasn't appended. Suppose a queue was open to the writer. Then a file call failed, and
-- `AppendLeaves` says what is left of the queue.
abbrev pub FailsToAppend : {R : Type 0} → Format R → (List ℕ → Type 0) → List ℕ → WriteFault
    → LogFileWriter → LogFileWriter → Disk → Disk → Type 0
FailsToAppend {R} F own bytes fault before after old new = (base : Disk) (q : LogFiles R) (w : Written R)
    (path : List ℕ) (N : Names)
    → F.IsFrame q.last q.header w.bytes w.value → w.bytes ≡ bytes → IsOpen F own base before q path N old
    → Fails old new × AppendLeaves F own fault base w q before after path N new

-- The file calls of a failed append. The fault has the error of one of these calls:
-- - `CutBack`: the error of the write. The file was then truncated after the earlier records, and synced.
-- - `Failed`: the error of the truncation after the failed write, or of the sync after the truncation.
abbrev pub AppendMakes : WriteFault → LogFileWriter → LogFileWriter → List ℕ → ℕ → Disk → Disk → Type 0
AppendMakes (CutBack kind) before after bytes target old new = (middle : LogFileWriter) × (between : Disk)
    × FailsToWriteNext before middle bytes target kind old between × Closes middle after between new
AppendMakes (Failed kind) before after bytes target old new = (middle : LogFileWriter) × (between : Disk)
    × (error : ErrorKind) × FailsToWriteNext before middle bytes target error old between
    × FailsToClose middle after kind between new

-- A file didn't get its header: the file's size couldn't be read, the header couldn't be written, or the sync after
-- that failed. `error` is the error of the call that failed.
abbrev pub BeginMakes : Handle → List ℕ → ErrorKind → Disk → Disk → Type 0
BeginMakes handle header error old new = FailsToTakeUp handle header true error old new
    ⊎ ((writer : LogFileWriter) × (between : Disk) × TakesUp handle header true writer old between
    × FailsToSync writer.handle error between new)

-- The calls that begin a file: its header is written at offset 0, and the file is synced. If the file is shorter than
-- the header, the missing bytes are allocated first; a failure of that is ignored.
pub record BeginsBy (handle : Handle) (header : List ℕ) (writer : LogFileWriter) (old new : Disk)
    : Type 0 where
  pub between : Disk
  pub takes : TakesUp handle header true writer old between
  pub syncs : Syncs writer.handle between new

-- if a queue was open to the writer before, it still is, and now all its records are durable
abbrev pub SyncsAll : {R : Type 0} → Format R → (List ℕ → Type 0) → LogFileWriter → Disk → Disk → Type 0
SyncsAll {R} F own writer old new = (base : Disk) (q : LogFiles R) (path : List ℕ) (N : Names)
    → IsOpen F own base writer q path N old → IsOpen F own base writer (synced q) path N new

-- A sync of the file failed. Suppose a queue was open to the writer. Then a file call failed, and the queue's last file
-- still holds its records (`IsHeld`).
abbrev pub FailsToSyncAll : {R : Type 0} → Format R → (List ℕ → Type 0) → LogFileWriter → Disk → Disk
    → Type 0
FailsToSyncAll {R} F own writer old new = (base : Disk) (q : LogFiles R) (path : List ℕ) (N : Names)
    → IsOpen F own base writer q path N old → Fails old new × IsHeld F own base writer q path N new

-- if a queue was open to the writer, its last file was finished
abbrev pub Finishes : {R : Type 0} → Format R → (List ℕ → Type 0) → LogFileWriter → LogFileWriter → Disk
    → Disk → Type 0
Finishes {R} F own before after old new = (base : Disk) (q : LogFiles R) (path : List ℕ) (N : Names)
    → IsOpen F own base before q path N old → IsFinished F own base after q path N new

-- The file wasn't finished. Suppose a queue was open to the writer. Then a file call failed, and the queue's last file
-- still holds its records (`IsHeld`).
abbrev pub FailsToFinish : {R : Type 0} → Format R → (List ℕ → Type 0) → LogFileWriter → Disk → Disk
    → Type 0
FailsToFinish {R} F own before old new = (base : Disk) (q : LogFiles R) (path : List ℕ) (N : Names)
    → IsOpen F own base before q path N old → Fails old new × IsHeld F own base before q path N new

-- The queue's files are on the disk. The last file has its number but no header yet: it still has the bytes that it
-- held when it got the number. The handle may write the last file.
abbrev pub IsGiven : {R : Type 0} → Format R → (List ℕ → Type 0) → Disk → Handle → LogFiles R → List ℕ
    → Names → Disk → Type 0
IsGiven F own base handle q path N d = (handle.permission ≡ ReadWrite)
    × Stands F own base q path handle.file (IsNew F q) N d

-- if the queue's last file had no header yet, it got `header`, and the queue is now open to the writer
abbrev pub Begins : {R : Type 0} → Format R → (List ℕ → Type 0) → Handle → List ℕ → LogFileWriter → Disk
    → Disk → Type 0
Begins {R} F own handle header writer old new = (base : Disk) (q : LogFiles R) (stale : List ℕ)
    (path : List ℕ) (N : Names)
    → IsGiven F own base handle (begun header stale q) path N old
    → (room : ℕ) × IsOpen F own base writer (with_room room (begun header stale q)) path N new

-- The last file didn't get `header`. Suppose the queue's last file had no header before. Then a file call failed. Any
-- part of the header may be on disk, but no record.
abbrev pub FailsToBegin : {R : Type 0} → Format R → (List ℕ → Type 0) → Handle → List ℕ → Disk → Disk
    → Type 0
FailsToBegin {R} F own handle header old new = (base : Disk) (q : LogFiles R) (stale : List ℕ)
    (path : List ℕ) (N : Names)
    → IsGiven F own base handle (begun header stale q) path N old
    → Fails old new × ((room : ℕ)
    × Stands F own base (with_room room (begun header stale q)) path handle.file
    (HoldsLast F (with_room room (begun header stale q))) N new)

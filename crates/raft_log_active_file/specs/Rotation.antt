-- What is on disk after a rotation, and after the deletion of a file, whether the call succeeds or fails. `F`, `own`,
-- `base` and `N` are as in `Exits`.
use Rattle.std.specs.Prelude.{◌≡◌, ℕ, ◌<◌, ◌≤◌, ◌⊎◌, Some, None, List, [], suc}
use Rattle.std.specs.Map.{update}
use Rattle.std.specs.Str.{bytes_eq}
use Rattle.std.specs.declared.io.ErrorKind.{ErrorKind}
use Rattle.raft_log_fs.specs.Disk.{File, Disk}
use Rattle.raft_log_fs.specs.Causes.{Fails}
use Rattle.raft_log_file_writer.specs.LogFormat.{Format}
use Rattle.raft_log_file_writer.specs.LogQueue.{LogFiles, HoldsLast, rotated}
use Rattle.raft_log_fs.specs.Touching.{HasFile}
use Rattle.raft_log_fs.specs.declared.handle.Handle.{Handle}
use Rattle.raft_log_fs.specs.declared.handle.Permission.TheVariants.{ReadWrite}
use Rattle.raft_log_file_writer.specs.Writer.{Closes, FailsToClose}
use Rattle.raft_log_file_writer.specs.declared.writer.LogFileWriter.{LogFileWriter}
use Rattle.raft_log_active_file.specs.Queue.{with_room}
use Rattle.raft_log_active_file.specs.States.{IsNew}
use Rattle.raft_log_active_file.specs.Standing.{Names, Stands}
use Rattle.raft_log_active_file.specs.Bridge.{GapsStay}
use Rattle.raft_log_active_file.specs.Exits.{IsOpen, BeginMakes, BeginsBy}

-- the queue can rotate: the next number is in range, `to` is a path of it, and `header` is a header of the format
pub record CanRotate {R : Type 0} (F : Format R) (q : LogFiles R) (header to : List ℕ) : Type 0 where
  pub bound : suc q.last < F.limit
  pub header_is : F.IsHeader header
  pub path : F.IsPath (suc q.last) to

-- `from` is the path of a file that the queue keeps for recycling. It isn't a path of the last number or of a higher
-- one. The handle may write the file. The file's content is `stale`, without a record of the next number.
pub record IsSpare {R : Type 0} (F : Format R) (own : List ℕ → Type 0) (q : LogFiles R)
    (header stale : List ℕ) (handle : Handle)
    (from : List ℕ) (N : Names) (d : Disk) : Type 0 where
  pub mine : own from
  pub apart : (m : ℕ) → q.last ≤ m → m < F.limit → F.IsPath m from → ⊥
  pub named : N from ≡ Some handle.file
  pub permitted : handle.permission ≡ ReadWrite
  pub file : HasFile handle.file (IsNew F (rotated header stale q)) d

-- the queue's files are on the disk, and its last file holds its records (`HoldsLast`)
pub record StandsWithRecords {R : Type 0} (F : Format R) (own : List ℕ → Type 0) (base : Disk) (q : LogFiles R)
    (d : Disk) : Type 0 where
  pub path : List ℕ
  pub id : ℕ
  pub N : Names
  pub stands : Stands F own base q path id (HoldsLast F q) N d

-- On disk `d` the queue is `q` as before, or `q` after a rotation. After a rotation the new active file has no records.
-- It held `stale` when it got its number, and any part of `header` may be on disk. In both cases the last file holds
-- its records (`HoldsLast`).
abbrev pub IsLeftTurned : {R : Type 0} → Format R → (List ℕ → Type 0) → Disk → LogFiles R → List ℕ
    → List ℕ → Disk → Type 0
IsLeftTurned F own base q header stale d = StandsWithRecords F own base q d ⊎
    ((room : ℕ) × StandsWithRecords F own base (with_room room (rotated header stale q)) d)

-- The queue has rotated into the next file, at the path `to`, which held the bytes `stale` before. The queue is open to
-- the writer, and zeros may be allocated in the next file. If a number below that of the old active file had no file,
-- it still has none.
abbrev pub QueueGoesOnInNext : {R : Type 0} → Format R → (List ℕ → Type 0) → Disk → LogFileWriter → LogFiles R
    → List ℕ → List ℕ → List ℕ → Names → Disk → Disk → Type 0
QueueGoesOnInNext F own base writer q header stale to N old new = (room : ℕ)
    × IsOpen F own base writer (with_room room (rotated header stale q)) to N new × GapsStay F q old new

-- The rotation failed because a file call failed. The queue has the same files as before, or also a next file without
-- records (`IsLeftTurned`). If a number below that of the old active file had no file, it still has none.
abbrev pub StaysBehind : {R : Type 0} → Format R → (List ℕ → Type 0) → Disk → LogFiles R → List ℕ
    → List ℕ → Disk → Disk → Type 0
StaysBehind F own base q header stale old new = Fails old new
    × IsLeftTurned F own base q header stale new × GapsStay F q old new

-- If the queue could rotate (`CanRotate`) and was open to the writer `before`, it has rotated into a new file. `handle`
-- is the new file's handle.
abbrev pub RotatesToNew : {R : Type 0} → Format R → (List ℕ → Type 0) → List ℕ → List ℕ → LogFileWriter
    → LogFileWriter → Handle → Disk → Disk → Type 0
RotatesToNew {R} F own header to before after handle old new = (base : Disk) (q : LogFiles R)
    (path : List ℕ) (N : Names)
    → CanRotate F q header to → IsOpen F own base before q path N old
    → QueueGoesOnInNext F own base after q header [] to (update bytes_eq N to (Some handle.file)) old new

-- Rotating into a new file failed. If the queue could rotate and was open to the writer, `StaysBehind` says what is
-- left of the queue.
abbrev pub FailsToRotateToNew : {R : Type 0} → Format R → (List ℕ → Type 0) → List ℕ → List ℕ
    → LogFileWriter → Disk → Disk → Type 0
FailsToRotateToNew {R} F own header to before old new = (base : Disk) (q : LogFiles R) (path : List ℕ)
    (N : Names)
    → CanRotate F q header to → IsOpen F own base before q path N old
    → StaysBehind F own base q header [] old new

-- Suppose the queue could rotate, was open to the writer `before`, and kept the file at `from` for recycling
-- (`IsSpare`). Then it has rotated into this file, which was renamed from `from` to `to`.
abbrev pub RotatesOver : {R : Type 0} → Format R → (List ℕ → Type 0) → List ℕ → Handle → List ℕ → List ℕ
    → LogFileWriter → LogFileWriter → Disk → Disk → Type 0
RotatesOver {R} F own header handle from to before after old new = (base : Disk) (q : LogFiles R)
    (stale : List ℕ) (path : List ℕ) (N : Names)
    → CanRotate F q header to → IsSpare F own q header stale handle from N old
    → IsOpen F own base before q path N old
    → QueueGoesOnInNext F own base after q header stale to
    (update bytes_eq (update bytes_eq N from None) to (Some handle.file)) old new

-- Rotating into a file kept for recycling failed. Suppose the queue could rotate, was open to the writer, and kept the
-- file at `from` for recycling. Then `StaysBehind` says what is left of the queue.
abbrev pub FailsToRotateOver : {R : Type 0} → Format R → (List ℕ → Type 0) → List ℕ → Handle → List ℕ
    → List ℕ → LogFileWriter → Disk → Disk → Type 0
FailsToRotateOver {R} F own header handle from to before old new = (base : Disk) (q : LogFiles R)
    (stale : List ℕ) (path : List ℕ) (N : Names)
    → CanRotate F q header to → IsSpare F own q header stale handle from N old
    → IsOpen F own base before q path N old
    → StaysBehind F own base q header stale old new

-- each file except `a` and `b` that was in `old` is in `new` with the same state
abbrev pub FilesStay : ℕ → ℕ → Disk → Disk → Type 0
FilesStay a b old new = (id : ℕ) (file : File) → (id ≡ a → ⊥) → (id ≡ b → ⊥) → old.files id ≡ Some file
    → new.files id ≡ Some file

-- The calls of a rotation, in their order. The active file is truncated after its records and synced. The next file is
-- created or renamed (`Names`). Then it gets its header.
pub record RotatesBy (before : LogFileWriter) (header : List ℕ) (Names : Handle → Disk → Disk → Type 0)
    (handle : Handle) (after : LogFileWriter) (old new : Disk) : Type 0 where
  pub finished : LogFileWriter
  pub closed : Disk
  pub named : Disk
  pub closes : Closes before finished old closed
  pub names : Names handle closed named
  pub begins : BeginsBy handle header after named new

-- A rotation failed. `error` is the error of the failed call.
-- - `unfinished`: the active file couldn't be truncated or synced.
-- - `unnamed`: the next file couldn't be created or renamed.
-- - `unbegun`: the next file didn't get its header.
pub data RotationMakes (before : LogFileWriter) (header : List ℕ) (Fails : ErrorKind → Disk → Disk → Type 0)
    (Names : Handle → Disk → Disk → Type 0) (error : ErrorKind) (old new : Disk) : Type 0 where
  unfinished : (after : LogFileWriter) → FailsToClose before after error old new
      → RotationMakes before header Fails Names error old new
  unnamed : (after : LogFileWriter) (closed : Disk) → Closes before after old closed
      → Fails error closed new → RotationMakes before header Fails Names error old new
  unbegun : (after : LogFileWriter) (handle : Handle) (closed named : Disk) → Closes before after old closed
      → Names handle closed named → BeginMakes handle header error named new
      → RotationMakes before header Fails Names error old new

-- `gone` is the path of a file of the queue that may be deleted: it is no path of the last number or a higher one
pub record CanDrop {R : Type 0} (F : Format R) (own : List ℕ → Type 0) (q : LogFiles R) (gone : List ℕ)
    (N : Names) : Type 0 where
  pub mine : own gone
  pub apart : (m : ℕ) → q.last ≤ m → m < F.limit → F.IsPath m gone → ⊥
  pub id : ℕ
  pub named : N gone ≡ Some id

-- If the queue was open to the writer and its file at `gone` may be deleted (`CanDrop`), this file was deleted. The
-- rest of the queue is unchanged. If a number below that of the active file had no file, it still has none.
abbrev pub Drops : {R : Type 0} → Format R → (List ℕ → Type 0) → List ℕ → Disk → Disk → Type 0
Drops {R} F own gone old new = (base : Disk) (writer : LogFileWriter) (q : LogFiles R) (path : List ℕ)
    (N : Names)
    → CanDrop F own q gone N → IsOpen F own base writer q path N old
    → IsOpen F own base writer q path (update bytes_eq N gone None) new × GapsStay F q old new

-- Deleting the file at `gone` failed. Suppose the queue was open to the writer and this file may be deleted. Then a
-- file call failed, and the queue's last file still holds its records.
abbrev pub FailsToDrop : {R : Type 0} → Format R → (List ℕ → Type 0) → List ℕ → Disk → Disk → Type 0
FailsToDrop {R} F own gone old new = (base : Disk) (writer : LogFileWriter) (q : LogFiles R)
    (path : List ℕ) (N : Names)
    → CanDrop F own q gone N → IsOpen F own base writer q path N old
    → Fails old new × StandsWithRecords F own base q new × GapsStay F q old new

-- For each changing call of a file system: the disk after it succeeds, and the error and the disk after it fails. `old`
-- is the disk before the call, and `new` the disk after it. If the file system stops at a call with right arguments,
-- the call may have been done.
use Rattle.std.specs.Prelude.{◌≡◌, ℕ, ◌⊎◌, false, List}
use Rattle.std.specs.String.{string_bytes}
use Rattle.std.specs.declared.io.ErrorKind.{ErrorKind}
use Rattle.std.specs.declared.io.ErrorKind.TheVariants.{OutOfMemory}
use Rattle.raft_log_fs.specs.Disk.{Wrote, ShortenedTo, GrewTo, Disk}
use Rattle.raft_log_fs.specs.Calls.{Changes, Creates, Deletes, Renames, MakesDirectory, after_change, flushed, denied, RefusedChange, RefusedWhole}
use Rattle.raft_log_fs.specs.Arguments.{WrongCreate, WrongName, WrongRename, WrongDirectory, WrongHandle, WrongWriter, IsAfterStop}
use Rattle.raft_log_fs.specs.Reading.{IsOpened}
use Rattle.raft_log_fs.specs.declared.handle.Fault.{Fault}
use Rattle.raft_log_fs.specs.declared.handle.Fault.TheVariants.{DenyRead}
use Rattle.raft_log_fs.specs.declared.handle.Handle.{Handle}
use Rattle.raft_log_fs.specs.declared.handle.Permission.TheVariants.{ReadWrite}

-- Calls on paths.

-- creating a file at `path` failed: the path is wrong, a failure was counted, or the file system stopped
abbrev pub FailsToCreate : List ℕ → ErrorKind → Disk → Disk → Type 0
FailsToCreate path error old new =
    RefusedWhole (Creates path old.unused old) (WrongCreate path old) error old new

-- deleting the file at `path` failed: the path is wrong, a failure was counted, or the file system stopped
abbrev pub FailsToDelete : List ℕ → ErrorKind → Disk → Disk → Type 0
FailsToDelete path error old new = RefusedWhole (Deletes path old) (WrongName path old) error old new

-- renaming `from` to `to` failed: a path is wrong, a failure was counted, or the file system stopped
abbrev pub FailsToRename : List ℕ → List ℕ → ErrorKind → Disk → Disk → Type 0
FailsToRename from to error old new =
    RefusedWhole (Renames from to old) (WrongRename from to old) error old new

-- the file at `from` was renamed to `to`, and `handle` was opened for it, for reading and writing
abbrev pub RenamesAndOpens : List ℕ → List ℕ → Handle → Disk → Disk → Type 0
RenamesAndOpens from to handle old new = Renames from to old new × IsOpened to ReadWrite handle new

-- Renaming and opening a file failed. Either the renaming failed, or it succeeded, and there was no memory for the
-- handle.
abbrev pub FailsToRenameAndOpen : List ℕ → List ℕ → ErrorKind → Disk → Disk → Type 0
FailsToRenameAndOpen from to error old new =
    FailsToRename from to error old new ⊎ (Renames from to old new × (error ≡ OutOfMemory))

-- creating a directory at `path` failed: the path is taken, a failure was counted, or the file system stopped
abbrev pub FailsToMakeDirectory : List ℕ → ErrorKind → Disk → Disk → Type 0
FailsToMakeDirectory path error old new =
    RefusedWhole (MakesDirectory path old) (WrongDirectory path old) error old new

-- the file system runs, and the call, which changes nothing on the disk, succeeded
pub record LeavesAll (old new : Disk) : Type 0 where
  pub runs : old.stopped ≡ false
  pub same : new ≡ old

-- a call that changes nothing on the disk failed: a failure was counted, or the file system stopped
abbrev pub FailsWithoutChange : ErrorKind → Disk → Disk → Type 0
FailsWithoutChange error old new = RefusedWhole (LeavesAll old) (λ kind. ⊥) error old new

-- Calls on a file.

-- `bytes` were written to the handle's file from `offset` on; they are not synced
abbrev pub Writes : Handle → ℕ → List ℕ → Disk → Disk → Type 0
Writes handle offset bytes old new = Changes handle.file (after_change (Wrote offset bytes)) old new

-- Writing `bytes` failed: the handle is wrong, a failure was counted, or the file system stopped. The bytes in the
-- write's range may have any value, as `IsTorn` says.
abbrev pub FailsToWrite : Handle → ℕ → List ℕ → ErrorKind → Disk → Disk → Type 0
FailsToWrite handle offset bytes error old new =
    RefusedChange handle.file (Wrote offset bytes) (WrongWriter handle old) error old new

-- the handle's file was truncated to `size`; this is not synced
abbrev pub Shortens : Handle → ℕ → Disk → Disk → Type 0
Shortens handle size old new = Changes handle.file (after_change (ShortenedTo size)) old new

-- Truncating the handle's file failed: the handle is wrong, a failure was counted, or the file system stopped. The
-- file may have been truncated.
abbrev pub FailsToShorten : Handle → ℕ → ErrorKind → Disk → Disk → Type 0
FailsToShorten handle size error old new =
    RefusedChange handle.file (ShortenedTo size) (WrongWriter handle old) error old new

-- the handle's file was extended with zeros to `size`; this is not synced
abbrev pub Grows : Handle → ℕ → Disk → Disk → Type 0
Grows handle size old new = Changes handle.file (after_change (GrewTo size)) old new

-- Extending the handle's file failed: the handle is wrong, a failure was counted, or the file system stopped. Some of
-- the zeros may have been added.
abbrev pub FailsToGrow : Handle → ℕ → ErrorKind → Disk → Disk → Type 0
FailsToGrow handle size error old new =
    RefusedChange handle.file (GrewTo size) (WrongWriter handle old) error old new

-- the handle's file was synced
abbrev pub Syncs : Handle → Disk → Disk → Type 0
Syncs handle old new = Changes handle.file flushed old new

-- syncing the handle's file failed: the handle is wrong, a failure was counted, or the file system stopped
abbrev pub FailsToSync : Handle → ErrorKind → Disk → Disk → Type 0
FailsToSync handle error old new =
    RefusedWhole (Changes handle.file flushed old) (WrongHandle handle old) error old new

-- the disk after a `DenyRead` fault marked its offset as unreadable; any other fault marks nothing
abbrev pub denied_by : Fault → Disk → Disk
denied_by (DenyRead name place) d = denied (string_bytes name) place d
denied_by fault d = d

-- Arming a fault changed the disk at most by marking the offset that the fault makes unreadable. Which later calls will
-- fail isn't part of the disk. A file system that ignores faults marks nothing.
pub record Arms (fault : Fault) (old new : Disk) : Type 0 where
  pub runs : old.stopped ≡ false
  pub marks : (new ≡ old) ⊎ (new ≡ denied_by fault old)

-- arming a fault failed: the file system has stopped, or memory ran out
abbrev pub IsUnarmed : Disk → ErrorKind → Type 0
IsUnarmed d error = IsAfterStop d error ⊎ ((d.stopped ≡ false) × (error ≡ OutOfMemory))

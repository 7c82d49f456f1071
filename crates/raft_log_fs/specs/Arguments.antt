-- In which states of the disk an argument of a call is wrong, and which error the call then returns. Also the error of
-- every call after the file system has stopped.
use Rattle.std.specs.Prelude.{◌≡◌, ℕ, ◌⊎◌, true, false, None, List}
use Rattle.std.specs.declared.io.ErrorKind.{ErrorKind}
use Rattle.std.specs.declared.io.ErrorKind.TheVariants.{NotFound, AlreadyExists, PermissionDenied, IsADirectory, InvalidInput, OutOfMemory, Other}
use Rattle.raft_log_fs.specs.Disk.{Disk, HasDirectory}
use Rattle.raft_log_fs.specs.declared.handle.Handle.{Handle}
use Rattle.raft_log_fs.specs.declared.handle.Permission.TheVariants.{ReadOnly}

-- a file or a directory has this path
abbrev pub IsTaken : List ℕ → Disk → Type 0
IsTaken path d = (d.names path ≡ None → ⊥) ⊎ (d.directories path ≡ true)

-- Creating a file at `path` is wrong: `AlreadyExists` if a file or directory has the path, `NotFound` if the path's
-- parent directory doesn't exist.
abbrev pub WrongCreate : List ℕ → Disk → ErrorKind → Type 0
WrongCreate path d error = ((error ≡ AlreadyExists) × IsTaken path d)
    ⊎ ((error ≡ NotFound) × (HasDirectory path d → ⊥))

-- `NotFound`: no file has this path
abbrev pub WrongName : List ℕ → Disk → ErrorKind → Type 0
WrongName path d error = (error ≡ NotFound) × (d.names path ≡ None)

-- Renaming is wrong: `NotFound` if no file has the path `from`; `IsADirectory` if a directory has the path `to`;
-- `NotFound` if the parent directory of `to` doesn't exist.
abbrev pub WrongRename : List ℕ → List ℕ → Disk → ErrorKind → Type 0
WrongRename from to d error = WrongName from d error ⊎ (((error ≡ IsADirectory) × (d.directories to ≡ true))
    ⊎ ((error ≡ NotFound) × (HasDirectory to d → ⊥)))

-- `AlreadyExists`: a file or directory has this path
abbrev pub WrongDirectory : List ℕ → Disk → ErrorKind → Type 0
WrongDirectory path d error = (error ≡ AlreadyExists) × IsTaken path d

-- `NotFound`: the handle's file was deleted
abbrev pub WrongHandle : Handle → Disk → ErrorKind → Type 0
WrongHandle handle d error = (error ≡ NotFound) × (d.files handle.file ≡ None)

-- a change through this handle is wrong: `NotFound` if its file was deleted, `PermissionDenied` if the handle is
-- read-only
abbrev pub WrongWriter : Handle → Disk → ErrorKind → Type 0
WrongWriter handle d error =
    WrongHandle handle d error ⊎ ((error ≡ PermissionDenied) × (handle.permission ≡ ReadOnly))

-- listing `path` is wrong: `InvalidInput` if a file has the path, `NotFound` if nothing has it
abbrev pub WrongListing : List ℕ → Disk → ErrorKind → Type 0
WrongListing path d error = ((error ≡ InvalidInput) × (d.names path ≡ None → ⊥))
    ⊎ ((error ≡ NotFound) × (d.names path ≡ None) × (d.directories path ≡ false))

-- the file system has stopped, and the error is `Other`, as for every call then
abbrev pub IsAfterStop : Disk → ErrorKind → Type 0
IsAfterStop d error = (d.stopped ≡ true) × (error ≡ Other)

-- Why a call that changes nothing failed with this error:
-- - `stopped`: the file system has stopped, and the error is `Other`.
-- - `wrong_argument`: an argument is wrong, and the error fits (`wrong`).
-- - `no_memory`: memory ran out, and the error is `OutOfMemory`.
pub data IsDeclined (wrong : Type 0) (d : Disk) (error : ErrorKind) : Type 0 where
  stopped : d.stopped ≡ true → error ≡ Other → IsDeclined wrong d error
  wrong_argument : d.stopped ≡ false → wrong → IsDeclined wrong d error
  no_memory : d.stopped ≡ false → error ≡ OutOfMemory → IsDeclined wrong d error

-- Which file system calls a call of a pipe makes, in order. The call makes no other calls that change the disk.
use Rattle.std.specs.Prelude.{◌≡◌, ◌⊎◌, ℕ, true, None, List, [], ◌∷◌, length}
use Rattle.std.specs.declared.io.ErrorKind.{ErrorKind}
use Rattle.raft_log_fs.specs.Disk.{Disk}
use Rattle.raft_log_fs.specs.Calls.{Creates, Deletes, Renames}
use Rattle.raft_log_fs.specs.Exits.{FailsToCreate, FailsToDelete, FailsToRename}
use Rattle.raft_log_fs.specs.Reading.{IsOpened}
use Rattle.raft_log_fs.specs.declared.handle.Permission.TheVariants.{ReadWrite}
use Rattle.raft_log_file_writer.specs.declared.writer.LogFileWriter.{LogFileWriter}
use Rattle.raft_log_active_file.specs.Layout.{FilePaths, path_of, plain_place}
use Rattle.raft_log_active_file.specs.Rotation.{RotatesBy, RotationMakes}
use Rattle.raft_log_file_pipe.specs.Files.{Listed}

-- The calls of a rotation, in order. If files are kept for recycling, the oldest of them is opened for writing. Then
-- the active file is truncated after its records and synced. Then the opened file is renamed, or the next file is
-- created if none is kept. Then the next file gets its header.
abbrev pub TurnsBy : FilePaths → List ℕ → List Listed → LogFileWriter → Listed → LogFileWriter → Disk → Disk
    → Type 0
TurnsBy paths header [] writer next after old new = RotatesBy writer header
    (λ handle. Creates (path_of paths next) handle.file) next.handle after old new
TurnsBy paths header (f ∷ fs) writer next after old new = IsOpened (path_of paths f) ReadWrite next.handle old
    × RotatesBy writer header (λ handle. Renames (path_of paths f) (path_of paths next)) next.handle after
    old new

-- the file at `path` can't be opened: the file system has stopped, or no file has the path
abbrev pub IsUnopened : List ℕ → Disk → Type 0
IsUnopened path d = (d.stopped ≡ true) ⊎ (d.names path ≡ None)

-- the path of the queue's file with the number `n` in the directory of `file`, with a name without a plus sign
abbrev pub next_path : FilePaths → Listed → ℕ → List ℕ
next_path paths file = paths.numbered (plain_place (length paths.directories) file.path_id)

-- The calls of a failed rotation, up to the one that failed. If the oldest file kept for recycling can't be opened,
-- nothing was changed.
abbrev pub TurnsNot : FilePaths → List ℕ → List Listed → LogFileWriter → ℕ → Disk → Disk → Type 0
TurnsNot paths header [] writer number old new = (directory : ℕ) × (error : ErrorKind)
    × RotationMakes writer header (FailsToCreate (paths.numbered directory number))
    (λ handle. Creates (paths.numbered directory number) handle.file) error old new
TurnsNot paths header (f ∷ fs) writer number old new = (IsUnopened (path_of paths f) old × (new ≡ old))
    ⊎ ((error : ErrorKind)
    × RotationMakes writer header (FailsToRename (path_of paths f) (next_path paths f number))
    (λ handle. Renames (path_of paths f) (next_path paths f number)) error old new)

-- the files at these paths were deleted, in this order
abbrev pub DropsBy : List (List ℕ) → Disk → Disk → Type 0
DropsBy [] old new = new ≡ old
DropsBy (path ∷ paths) old new = (between : Disk) × Deletes path old between × DropsBy paths between new

-- the files at these paths were deleted, in this order, up to one whose deletion failed
abbrev pub DropsUntil : List (List ℕ) → Disk → Disk → Type 0
DropsUntil [] old new = ⊥
DropsUntil (path ∷ paths) old new = ((error : ErrorKind) × FailsToDelete path error old new)
    ⊎ ((between : Disk) × Deletes path old between × DropsUntil paths between new)

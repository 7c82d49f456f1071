-- In which directory a new file is created. `tells` relates a directory to the free space that the file system may
-- report for it.
use Rattle.std.specs.Prelude.{◌≡◌, ◌⊎◌, ℕ, ◌+◌, ◌-◌, ◌<◌, ◌≤◌, Bool, true, false, cond, Option, Some, None, List, [], ◌∷◌, ◌++◌, length, slice_index_or}
use Rattle.std.specs.Str.{bytes_eq}
use Rattle.raft_log_fs.specs.Disk.{Disk, File}
use Rattle.raft_log_fs.specs.Arguments.{WrongListing}
use Rattle.std.specs.declared.io.ErrorKind.{ErrorKind}
use Rattle.raft_log_active_file.specs.Layout.{FilePaths, plain_place}
use Rattle.raft_log_file_pipe.specs.Files.{Listed}
use Rattle.raft_log_file_pipe.specs.declared.pipe_files.PipeFiles.{PipeFiles}

-- a free space of at least `size` bytes is reported for the directory
abbrev pub HasSpace : (List ℕ → ℕ → Type 0) → ℕ → List ℕ → Type 0
HasSpace tells size directory = (space : ℕ) × tells directory space × (size ≤ space)

-- Either a free space of less than `size` bytes is reported for the directory, or the call for the free space fails. It
-- fails because the file system has stopped, or the path isn't that of a directory.
abbrev pub LacksRoom : (List ℕ → ℕ → Type 0) → Disk → ℕ → List ℕ → Type 0
LacksRoom tells d size directory = ((space : ℕ) × tells directory space × (space < size))
    ⊎ ((d.stopped ≡ true) ⊎ ((error : ErrorKind) × WrongListing directory d error))

-- the result says whether the directory has room for `size` bytes
abbrev pub TellsRoom : (List ℕ → ℕ → Type 0) → Disk → ℕ → List ℕ → Bool → Type 0
TellsRoom tells d size directory true = HasSpace tells size directory
TellsRoom tells d size directory false = LacksRoom tells d size directory

-- each of these directories lacks room for `size` bytes
abbrev pub AllLackRoom : (List ℕ → ℕ → Type 0) → Disk → ℕ → List (List ℕ) → Type 0
AllLackRoom tells d size [] = Unit {0}
AllLackRoom tells d size (x ∷ xs) = LacksRoom tells d size x × AllLackRoom tells d size xs

-- each directory has no free space left, or the call for its free space fails
abbrev pub IsFull : (List ℕ → ℕ → Type 0) → Disk → FilePaths → Type 0
IsFull tells d paths = AllLackRoom tells d 1 paths.directories

-- `place` is the position of the directory for a new file of `size` bytes: the first one that has room for it. It is 0,
-- the main directory, if none has room. If there is only one directory, its space isn't checked.
pub data IsChosen (tells : List ℕ → ℕ → Type 0) (d : Disk) (size : ℕ) (directories : List (List ℕ))
    (place : ℕ) : Type 0 where
  alone : length directories ≤ 1 → place ≡ 0 → IsChosen tells d size directories place
  first : (before : List (List ℕ)) (directory : List ℕ) (behind : List (List ℕ))
      → directories ≡ before ++ directory ∷ behind → place ≡ length before
      → AllLackRoom tells d size before → HasSpace tells size directory
      → IsChosen tells d size directories place
  none : AllLackRoom tells d size directories → place ≡ 0 → IsChosen tells d size directories place

-- `place` is the position of the next file's directory. A recycled file stays in its directory, and its new name has no
-- plus sign before the number. If no file is kept for recycling, a new one is created in the directory that `IsChosen`
-- determines.
abbrev pub IsPlaced : (List ℕ → ℕ → Type 0) → Disk → ℕ → List (List ℕ) → List Listed → ℕ → Type 0
IsPlaced tells d size directories [] place = IsChosen tells d size directories place
IsPlaced tells d size directories (f ∷ fs) place = place ≡ plain_place (length directories) f.path_id

-- how many bytes a file has; 0 if it doesn't exist
abbrev pub size_of : Option File → ℕ
size_of None = 0
size_of (Some file) = length file.content

-- How many bytes a rotation frees when it truncates the active file at the writer's offset: those after this offset. It
-- is 0 if the file's size can't be read, as the file system has stopped or the file was deleted.
abbrev pub freed_by_cut : PipeFiles → Disk → ℕ
freed_by_cut files d = cond d.stopped 0 (size_of (d.files files.active.handle.file) - files.writer.written)

-- the directory of a file with this place
abbrev pub directory_at : List (List ℕ) → ℕ → List ℕ
directory_at directories place = slice_index_or directories (plain_place (length directories) place) []

-- `space` is the free space that is reported for the directory. In the directory `own`, it is `freed` bytes more.
abbrev pub TellsFreed : (List ℕ → ℕ → Type 0) → List ℕ → ℕ → List ℕ → ℕ → Type 0
TellsFreed tells own freed directory space = (reported : ℕ) × tells directory reported
    × (space ≡ reported + cond (bytes_eq directory own) freed 0)

-- `space` is what is free in the directory once a rotation has truncated the active file of these files. That is the
-- space that is reported before. In the active file's directory, the bytes that the truncation frees are added.
abbrev pub TellsAfterCut : (List ℕ → ℕ → Type 0) → Disk → List (List ℕ) → PipeFiles → List ℕ → ℕ → Type 0
TellsAfterCut tells d directories files =
    TellsFreed tells (directory_at directories files.active.path_id) (freed_by_cut files d)

-- A pipe with these files rotates into a file at `place`. The bytes that the truncation of the active file frees count
-- as free.
abbrev pub IsNextPlace : (List ℕ → ℕ → Type 0) → Disk → ℕ → List (List ℕ) → PipeFiles → ℕ → Type 0
IsNextPlace tells d size directories files place =
    IsPlaced (TellsAfterCut tells d directories files) d size directories files.recycled.items place

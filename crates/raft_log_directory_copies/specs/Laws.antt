-- A directory is copied without loss if its files are gathered in a list and laid out in another directory.
use Rattle.std.specs.Prelude.{◌≡◌, ℕ, List, Option, None, Some}
use Rattle.raft_log_fs.specs.Disk.{Disk, File, IsPlain}
use Rattle.raft_log_directory_copies.specs.Copies.{AreGathered, HoldsExactly, path_in}
use Rattle.raft_log_directory_copies.specs.declared.stored_file.StoredFile.{StoredFile}

-- what a read of this file returns; `None` if there is no file
abbrev pub read_of : Option File → Option (List ℕ)
read_of None = None
read_of (Some file) = Some file.content

-- what a read of the file with this node number returns; `None` if there is no number, or no file with it
abbrev pub content_of : Disk → Option ℕ → Option (List ℕ)
content_of d None = None
content_of d (Some id) = read_of (d.files id)

-- what a read of the file at a path returns; `None` if no file has the path
abbrev pub content_at : Disk → List ℕ → Option (List ℕ)
content_at d path = content_of d (d.names path)

-- Suppose `files` were gathered from the directory `from`, and the directory `to` has exactly these files. Take any
-- name without a slash. Either both directories have a file of this name, with the same content, or neither has one.
abbrev pub CopiesHoldTheSame : Type 0
CopiesHoldTheSame = (files : List StoredFile) (from to : List ℕ) (source copy : Disk) (name : List ℕ)
    → AreGathered files from source → HoldsExactly files to copy → IsPlain name
    → content_at copy (path_in to name) ≡ content_at source (path_in from name)

-- Which log files are read, for a path or a directory, and the errors if there are none to read.
use Rattle.std.specs.Prelude.{◌≡◌, ℕ, ◌⊎◌, List, [], ◌∷◌, ◌++◌, None, codes, false}
use Rattle.std.specs.List.Sorted.{IsPermutation, IsSortedByKey}
use Rattle.std.specs.String.{string_bytes}
use Rattle.raft_log_record_base.specs.Files.{file_cmp}
use Rattle.raft_log_record_base.specs.declared.errors.Error.{Error}
use Rattle.raft_log_record_base.specs.declared.errors.Error.TheVariants as errors
use Rattle.raft_log_record_base.specs.declared.pipe_log.FileId.{FileId}
use Rattle.raft_log_fs.specs.Disk.{Disk, IsPathIn}
use Rattle.raft_log_fs.specs.Arguments.{IsAfterStop}
use Rattle.raft_log_fs.specs.Reading.{IsListing}
use Rattle.raft_log_file_format.specs.Name.{IsNamed, suffix_of}
use Rattle.raft_log_file_reader.specs.declared.log_file.LogFile.{LogFile}

-- One file.

-- `name` is one that the log file `id` may have
abbrev pub IsNameOf : FileId → List ℕ → Type 0
IsNameOf id name = IsNamed (suffix_of id.queue) name id.seq

-- the part of `path` after its last slash is a name that the log file `id` may have
pub record IsLogPath (id : FileId) (path : List ℕ) : Type 0 where
  pub directory : List ℕ
  pub inside : IsPathIn directory path
  pub named : IsNameOf id inside.name

-- there is a file at `path`, and `files` has only this log file, with the queue and the number that its name says
pub record IsFileAt (path : List ℕ) (d : Disk) (files : List LogFile) : Type 0 where
  pub there : d.names path ≡ None → ⊥
  pub file : LogFile
  pub alone : files ≡ file ∷ []
  pub says : IsLogPath file.id path
  pub by : string_bytes file.path ≡ path

-- the text of an error about a path: these words, a colon, and the path
abbrev pub told : List ℕ → List ℕ → List ℕ
told words path = words ++ (codes ": " ++ path)

-- no file has the path, and `text` is the error text that says so
abbrev pub HasNoFileAt : List ℕ → Disk → List ℕ → Type 0
HasNoFileAt path d text = (text ≡ told (codes "Not a file") path) × (d.names path ≡ None)

-- there is a file at `path`, but its name isn't a log file's, and `text` is the error text that says so
pub record IsOtherFile (path : List ℕ) (d : Disk) (text : List ℕ) : Type 0 where
  pub tells : text ≡ told (codes "Invalid log file name") path
  pub there : d.names path ≡ None → ⊥
  pub other : (id : FileId) → IsLogPath id path → ⊥

-- Why no file to read was found at `path`. `Io`: the file system has stopped. `Memory`: memory ran out.
-- `InvalidArgument`: no file has the path, or its name isn't a log file's; the text says which.
abbrev pub IsNoFile : List ℕ → Disk → Error → Type 0
IsNoFile path d (errors.InvalidArgument text) =
    (d.stopped ≡ false) × (HasNoFileAt path d (string_bytes text) ⊎ IsOtherFile path d (string_bytes text))
IsNoFile path d (errors.Io kind) = IsAfterStop d kind
IsNoFile path d errors.Memory = d.stopped ≡ false
IsNoFile path d _ = ⊥

-- The files of a directory.

-- `files` are the log files of a directory among those with the names in this list, in the order of the list
abbrev pub AreFoundAmong : List ℕ → List (List ℕ) → List LogFile → Type 0
AreFoundAmong directory [] files = files ≡ []
AreFoundAmong directory (name ∷ names) files =
    (((id : FileId) → IsNameOf id name → ⊥) × AreFoundAmong directory names files)
    ⊎ ((file : LogFile) × (more : List LogFile) × IsNameOf file.id name
    × (string_bytes file.path ≡ directory ++ 47 ∷ name) × (files ≡ file ∷ more)
    × AreFoundAmong directory names more)

-- `files` are the log files of a directory: those of Rewrite before those of Append, and each queue's by rising number
pub record AreFilesOf (directory : List ℕ) (d : Disk) (files : List LogFile) : Type 0 where
  pub names : List (List ℕ)
  pub listing : IsListing directory d names
  pub found : List LogFile
  pub finds : AreFoundAmong directory names found
  pub same : IsPermutation found files
  pub ordered : IsSortedByKey (λ file. file.id) file_cmp files

-- Why a directory's log files couldn't be listed. `Io`: the file system has stopped. `Memory`: memory ran out.
-- `InvalidArgument`: a file has the path, or no directory has it. The text says that the path isn't a directory's.
abbrev pub IsNoDirectory : List ℕ → Disk → Error → Type 0
IsNoDirectory path d (errors.InvalidArgument text) = (d.stopped ≡ false)
    × (string_bytes text ≡ told (codes "Not a directory") path)
    × ((d.names path ≡ None → ⊥) ⊎ (d.directories path ≡ false))
IsNoDirectory path d (errors.Io kind) = IsAfterStop d kind
IsNoDirectory path d errors.Memory = d.stopped ≡ false
IsNoDirectory path d _ = ⊥

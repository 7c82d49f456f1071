-- Reserved files that aren't wanted are deleted. Reserved files are kept for recycling, and have reserved names instead
-- of a number of the queue.
use Rattle.std.specs.Prelude.{◌≡◌, List, [], ◌∷◌, ◌++◌}
use Rattle.std.specs.declared.io.ErrorKind.{ErrorKind}
use Rattle.raft_log_record_base.specs.declared.errors.Error.{Error}
use Rattle.raft_log_fs.specs.Disk.{Disk}
use Rattle.raft_log_fs.specs.Calls.{Deletes}
use Rattle.raft_log_fs.specs.Exits.{FailsToDelete}
use Rattle.raft_log_file_format.specs.Name.{IsNameRefusal}
use Rattle.raft_log_active_file.specs.Layout.{FilePaths, path_of}
use Rattle.raft_log_active_file.specs.declared.format.File.{File}

-- the file was deleted, or its deletion failed
pub data DropsOrNot (paths : FilePaths) (file : File) (old new : Disk) : Type 0 where
  dropped : Deletes (path_of paths file) old new → DropsOrNot paths file old new
  refused : (kind : ErrorKind) → FailsToDelete (path_of paths file) kind old new
      → DropsOrNot paths file old new

-- the deletion of each of these files was tried, in order: the file was deleted, or its deletion failed
abbrev pub DropsEach : FilePaths → List File → Disk → Disk → Type 0
DropsEach paths [] old new = new ≡ old
DropsEach paths (file ∷ files) old new =
    (mid : Disk) × DropsOrNot paths file old mid × DropsEach paths files mid new

-- The deletion of one of these files couldn't be tried, because no name was made for it: its number has more than
-- sixteen digits, or memory ran out. The deletions of the files before it were tried. The files after it are untouched.
pub record FailsToDropEach (paths : FilePaths) (files : List File) (error : Error) (old new : Disk)
    : Type 0 where
  pub before : List File
  pub file : File
  pub behind : List File
  pub files_are : files ≡ before ++ file ∷ behind
  pub drops : DropsEach paths before old new
  pub unnamed : IsNameRefusal file.seq error

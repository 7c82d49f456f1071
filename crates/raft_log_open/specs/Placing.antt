-- The files of a log, each with its path and with the path of the temporary file for its new bytes.
use Rattle.std.specs.Prelude.{◌≡◌, ℕ, ◌<◌, ◌^◌, ◌==◌, Option, None, Some, List, [], ◌∷◌, ◌++◌, codes, slice_index_or}
use Rattle.std.specs.List.{AllZip, last_or}
use Rattle.std.specs.String.{string_bytes}
use Rattle.raft_log_record_base.specs.declared.pipe_log.LogQueue.{LogQueue}
use Rattle.raft_log_record_base.specs.declared.pipe_log.LogQueue.TheVariants.{Append, Rewrite}
use Rattle.raft_log_fs.specs.Disk.{Disk}
use Rattle.raft_log_recovery_scan.specs.Found.{AreFilesIn, found_path}
use Rattle.raft_log_recovery_scan.specs.declared.file_kind.FileKind.{FileKind}
use Rattle.raft_log_recovery_scan.specs.declared.file_kind.FileKind.TheVariants as kinds
use Rattle.raft_log_recovery_scan.specs.declared.scanning.found.FoundFile.{FoundFile}
use Rattle.raft_log_offline.specs.Sources.{IsOneEach}
use Rattle.raft_log_open.specs.declared.placed_file.PlacedFile.{PlacedFile}

-- the kind of file that a queue has
abbrev pub kind_of : LogQueue → FileKind
kind_of Append = kinds.Append
kind_of Rewrite = kinds.Rewrite

-- the path of the temporary file in a directory; it is renamed over the file that it replaces
abbrev pub temporary_in : List ℕ → List ℕ
temporary_in directory = directory ++ 47 ∷ codes "unpadded"

-- the number of the file, or 0 if there is none
abbrev pub number_of : Option FoundFile → ℕ
number_of None = 0
number_of (Some file) = file.seq

-- the number of the last of these files, or 0 if there are none
abbrev pub last_number : List FoundFile → ℕ
last_number files = number_of (last_or None files)

-- the file is in one of the first `count` directories, and its number is small enough for a name
pub record IsListed (count : ℕ) (found : FoundFile) : Type 0 where
  pub listed : found.path_id < count
  pub small : found.seq < 10 ^ 16

-- `file` is the file `found` of this queue, with its path and the path of its temporary file. `last` is the number of
-- the queue's last file.
pub record IsPlaced (queue : LogQueue) (directories : List (List ℕ)) (last : ℕ) (found : FoundFile)
    (file : PlacedFile) : Type 0 where
  pub is : file.id ≡ record { queue = queue; seq = found.seq }
  pub last_one : file.is_last ≡ (found.seq == last)
  pub path : string_bytes file.path ≡ found_path (kind_of queue) directories found
  pub temporary : string_bytes file.temporary ≡ temporary_in (slice_index_or directories found.path_id [])

-- `files` are the queue's files in these directories, sorted by number. If files in several directories have the same
-- number, only the one in the last directory is listed.
pub record ArePlacedOf (queue : LogQueue) (directories : List (List ℕ)) (d : Disk) (files : List PlacedFile)
    : Type 0 where
  pub found : List FoundFile
  pub all : AreFilesIn (kind_of queue) directories d found
  pub chosen : List FoundFile
  pub each : IsOneEach found chosen
  pub placed : AllZip (IsPlaced queue directories (last_number chosen)) chosen files

-- `files` are the log's files: those of Rewrite, then those of Append
pub record AreLogFiles (directories : List (List ℕ)) (d : Disk) (files : List PlacedFile) : Type 0 where
  pub rewrite : List PlacedFile
  pub append : List PlacedFile
  pub of_rewrite : ArePlacedOf Rewrite directories d rewrite
  pub of_append : ArePlacedOf Append directories d append
  pub both : files ≡ rewrite ++ append

-- Writing the files of a log without padding: each file that has padding is replaced.
use Rattle.std.specs.Prelude.{◌≡◌, ℕ, ◌⊎◌, true, Option, None, Some, List, [], ◌∷◌, ◌++◌, Contains}
use Rattle.std.specs.String.{string_bytes}
use Rattle.std.specs.declared.io.ErrorKind.{ErrorKind}
use Rattle.std.specs.declared.io.ErrorKind.TheVariants.{OutOfMemory, Other}
use Rattle.raft_log_record_base.specs.declared.errors.Error.{Error}
use Rattle.raft_log_record_base.specs.declared.errors.Error.TheVariants as errors
use Rattle.raft_log_record_base.specs.declared.pipe_log.FileId.{FileId}
use Rattle.raft_log_fs.specs.Disk.{Disk}
use Rattle.raft_log_fs.specs.Calls.{Deletes}
use Rattle.raft_log_fs.specs.Exits.{FailsToDelete}
use Rattle.raft_log_fs.specs.Reading.{IsNotOpened, IsOpened}
use Rattle.raft_log_fs.specs.declared.handle.Handle.{Handle}
use Rattle.raft_log_fs.specs.declared.handle.Permission.TheVariants.{ReadOnly}
use Rattle.raft_log_recovery_read.specs.Foreign.{FailsToReadRecords}
use Rattle.raft_log_recovery_read.specs.declared.found_file.ListedFile.{ListedFile}
use Rattle.raft_log_offline.specs.Sources.{IsSourceRefusal}
use Rattle.raft_log_open.specs.Placing.{AreLogFiles, temporary_in}
use Rattle.raft_log_open.specs.PaddingReading.{NeedsBytes, NeedsNothing}
use Rattle.raft_log_open.specs.Replacing.{FailsToReplace, Replaces}
use Rattle.raft_log_open.specs.declared.placed_file.PlacedFile.{PlacedFile}

-- Looking.

-- the file that has this path, open for reading; `None` if no file has the path
abbrev pub FindsAt : List ℕ → Disk → Option Handle → Type 0
FindsAt path d None = d.names path ≡ None
FindsAt path d (Some handle) = IsOpened path ReadOnly handle d

-- why opening the file at this path fails: the file system has stopped, no file has the path, or memory ran out
abbrev pub FailsToLookAt : List ℕ → Disk → Error → Type 0
FailsToLookAt path d (errors.Io kind) = IsNotOpened path d kind
FailsToLookAt path d errors.Memory = IsNotOpened path d OutOfMemory
FailsToLookAt path d _ = ⊥

-- Clearing.

-- the directory has no temporary file: it had none, or the file was deleted
abbrev pub ClearsOne : List ℕ → Disk → Disk → Type 0
ClearsOne directory old new = ((old.names (temporary_in directory) ≡ None) × (new ≡ old))
    ⊎ Deletes (temporary_in directory) old new

-- in each of these directories, in order, the temporary file was deleted if there was one
abbrev pub ClearsAll : List (List ℕ) → Disk → Disk → Type 0
ClearsAll [] old new = new ≡ old
ClearsAll (directory ∷ more) old new = (mid : Disk) × ClearsOne directory old mid × ClearsAll more mid new

-- why deleting a directory's temporary file fails: memory ran out, the file couldn't be looked up, or the deletion
-- failed
pub data FailsToClearOne (directory : List ℕ) (error : Error) (old new : Disk) : Type 0 where
  short : error ≡ errors.Memory → new ≡ old → FailsToClearOne directory error old new
  unknown : FailsToLookAt (temporary_in directory) old error → new ≡ old
      → FailsToClearOne directory error old new
  undeleted : (kind : ErrorKind) → error ≡ errors.Io kind
      → FailsToDelete (temporary_in directory) kind old new → FailsToClearOne directory error old new

-- deleting the temporary file of one of the directories failed; the directories before it have none now
pub record FailsToClearAll (directories : List (List ℕ)) (error : Error) (old new : Disk) : Type 0 where
  pub before : List (List ℕ)
  pub directory : List ℕ
  pub behind : List (List ℕ)
  pub split : directories ≡ before ++ directory ∷ behind
  pub between : Disk
  pub first : ClearsAll before old between
  pub fails : FailsToClearOne directory error between new

-- One file.

-- the file's path is not that of its temporary file
abbrev pub IsApart : PlacedFile → Type 0
IsApart file = string_bytes file.path ≡ string_bytes file.temporary → ⊥

-- the file as a `ListedFile`, which is read by this handle
abbrev pub listed_as : PlacedFile → Handle → ListedFile
listed_as file handle = record { id = file.id; handle = handle; is_last = file.is_last }

-- The file isn't rewritten, and nothing changed. Either no file has its path, or the file doesn't count as padded
-- (`NeedsNothing`).
pub data LeavesAlone (file : PlacedFile) (old new : Disk) : Type 0 where
  absent : old.names (string_bytes file.path) ≡ None → new ≡ old → LeavesAlone file old new
  plain : (handle : Handle) → IsOpened (string_bytes file.path) ReadOnly handle old
      → NeedsNothing old (listed_as file handle) → new ≡ old → LeavesAlone file old new

-- the file has padding, and was replaced with one that has its bytes without padding
pub record WritesAnew (file : PlacedFile) (old new : Disk) : Type 0 where
  pub handle : Handle
  pub opened : IsOpened (string_bytes file.path) ReadOnly handle old
  pub bytes : List ℕ
  pub needs : NeedsBytes old (listed_as file handle) bytes
  pub replaces : Replaces (string_bytes file.temporary) (string_bytes file.path) bytes old new

-- Why writing a file without padding fails, and the disk after that.
-- - `unopened`, `unread`: the file wasn't opened or read. Nothing changed.
-- - `unreplaced`: the file has padding, and replacing it failed. Its path names the old file unchanged, or the whole
--   new one.
pub data FailsToUnpadOne (file : PlacedFile) (error : Error) (old new : Disk) : Type 0 where
  unopened : FailsToLookAt (string_bytes file.path) old error → new ≡ old → FailsToUnpadOne file error old new
  unread : (handle : Handle) → IsOpened (string_bytes file.path) ReadOnly handle old
      → FailsToReadRecords file.is_last file.id handle old error → new ≡ old → FailsToUnpadOne file error old new
  unreplaced : (handle : Handle) (bytes : List ℕ) (kind : ErrorKind)
      → IsOpened (string_bytes file.path) ReadOnly handle old → NeedsBytes old (listed_as file handle) bytes
      → error ≡ errors.Io kind
      → FailsToReplace (string_bytes file.temporary) (string_bytes file.path) bytes kind old new
      → FailsToUnpadOne file error old new

-- All files.

-- no file's path is that of its temporary file
abbrev pub AreApart : List PlacedFile → Type 0
AreApart files = (file : PlacedFile) → Contains files file → IsApart file

-- each file was written without padding or left alone, in order; `written` lists the files that were written
abbrev pub UnpadsAll : List PlacedFile → List FileId → Disk → Disk → Type 0
UnpadsAll [] written old new = (written ≡ []) × (new ≡ old)
UnpadsAll (file ∷ files) written old new = (mid : Disk)
    × ((LeavesAlone file old mid × UnpadsAll files written mid new)
    ⊎ ((more : List FileId) × (written ≡ file.id ∷ more) × WritesAnew file old mid × UnpadsAll files more mid new))

-- Writing one of the files without padding failed, after the files before it were written or left alone. Or that file
-- was written, and memory ran out for its id in the list of written files.
pub record FailsToUnpadAll (files : List PlacedFile) (error : Error) (old new : Disk) : Type 0 where
  pub before : List PlacedFile
  pub file : PlacedFile
  pub behind : List PlacedFile
  pub split : files ≡ before ++ file ∷ behind
  pub written : List FileId
  pub between : Disk
  pub first : UnpadsAll before written old between
  pub fails : FailsToUnpadOne file error between new ⊎ (WritesAnew file between new × (error ≡ errors.Memory))

-- The whole log.

-- The log's files were found, temporary files of an earlier call were deleted, and the files that have padding were
-- written without it.
pub record Unpads (directories : List (List ℕ)) (written : List FileId) (old new : Disk) : Type 0 where
  pub files : List PlacedFile
  pub are : AreLogFiles directories old files
  pub cleared : Disk
  pub clears : ClearsAll directories old cleared
  pub unpads : UnpadsAll files written cleared new

-- Why writing the files of a log without padding fails, and the disk after it:
-- - `ended`: the file system had stopped; this comes before all other reasons. Nothing changed.
-- - `unbegun`: out of memory; nothing changed.
-- - `unfound`: finding the log's files failed; nothing changed.
-- - `uncleared`: deleting the temporary files of an earlier call failed.
-- - `cut_short`: writing one of the files without padding failed.
pub data FailsToUnpad (directories : List (List ℕ)) (error : Error) (old new : Disk) : Type 0 where
  ended : old.stopped ≡ true → error ≡ errors.Io Other → new ≡ old → FailsToUnpad directories error old new
  unbegun : error ≡ errors.Memory → new ≡ old → FailsToUnpad directories error old new
  unfound : IsSourceRefusal directories old error → new ≡ old → FailsToUnpad directories error old new
  uncleared : (files : List PlacedFile) → AreLogFiles directories old files
      → FailsToClearAll directories error old new → FailsToUnpad directories error old new
  cut_short : (files : List PlacedFile) (cleared : Disk) → AreLogFiles directories old files
      → ClearsAll directories old cleared → FailsToUnpadAll files error cleared new
      → FailsToUnpad directories error old new

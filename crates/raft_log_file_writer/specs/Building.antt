-- Building a writer for the file at a path: the file is created or opened, and gets a header unless it has one.
use Rattle.std.specs.Prelude.{◌≡◌, Bool, true, false, Some, List, ℕ}
use Rattle.std.specs.declared.io.ErrorKind.{ErrorKind}
use Rattle.raft_log_record_base.specs.declared.errors.Error.{Error}
use Rattle.raft_log_record_base.specs.declared.errors.Error.TheVariants as errors
use Rattle.raft_log_file_format.specs.declared.header.LogFileFormat.{LogFileFormat}
use Rattle.raft_log_file_format.specs.Header.{IsHeaderRefusal, header_bytes}
use Rattle.raft_log_fs.specs.Disk.{File, Disk}
use Rattle.raft_log_fs.specs.Calls.{Creates}
use Rattle.raft_log_fs.specs.Reading.{IsOpened}
use Rattle.raft_log_fs.specs.Exits.{FailsToCreate}
use Rattle.raft_log_fs.specs.declared.handle.Handle.{Handle}
use Rattle.raft_log_fs.specs.declared.handle.Permission.TheVariants.{ReadWrite}
use Rattle.raft_log_file_writer.specs.Reader.{IsOpenRefusal}
use Rattle.raft_log_file_writer.specs.Writer.{IsWritten, TakesUp, FailsToTakeUp, taken_up}
use Rattle.raft_log_file_writer.specs.declared.writer.LogFileWriter.{LogFileWriter}

-- The file at `path` was created if `create` is true, and otherwise opened. `handle` is open for it and may write it.
pub data Finds (path : List ℕ) (create : Bool) (handle : Handle) (old new : Disk) : Type 0 where
  is_made : create ≡ true → handle.permission ≡ ReadWrite → Creates path handle.file old new
      → Finds path create handle old new
  was_there : create ≡ false → IsOpened path ReadWrite handle old → new ≡ old
      → Finds path create handle old new

-- `error` is why the file at `path` wasn't created if `create` is true, and otherwise why it wasn't opened
abbrev pub FailsToFind : List ℕ → Bool → Error → Disk → Disk → Type 0
FailsToFind path true (errors.Io kind) old new = FailsToCreate path kind old new
FailsToFind path true _ old new = ⊥
FailsToFind path false error old new = IsOpenRefusal path old error × (new ≡ old)

-- The file at `path` was created or opened, and then its writer was opened. A new file gets `header`, and so does an
-- old file that is shorter than the header.
pub record Builds (path header : List ℕ) (create : Bool) (writer : LogFileWriter) (old new : Disk)
    : Type 0 where
  pub between : Disk
  pub finds : Finds path create writer.handle old between
  pub takes : TakesUp writer.handle header create writer between new

-- Why no writer was built:
-- - `has_no_header`: the format has no header, or memory ran out for it; no call was made.
-- - `not_found`: the file wasn't created or opened.
-- - `not_taken_up`: the file was created or opened, and then opening its writer failed.
pub data FailsToBuild (path : List ℕ) (format : LogFileFormat) (create : Bool) (error : Error)
    (old new : Disk) : Type 0 where
  has_no_header : IsHeaderRefusal format error → new ≡ old → FailsToBuild path format create error old new
  not_found : FailsToFind path create error old new → FailsToBuild path format create error old new
  not_taken_up : (kind : ErrorKind) → error ≡ errors.Io kind → (handle : Handle) (between : Disk)
      → Finds path create handle old between
      → FailsToTakeUp handle (header_bytes format) create kind between new
      → FailsToBuild path format create error old new

-- If the writer's file existed on disk `old`, then on disk `new` it has its old content up to the writer's offset. If
-- the old content was shorter than `header`, the file has `header` there instead.
abbrev pub IsGoneOn : List ℕ → LogFileWriter → Disk → Disk → Type 0
IsGoneOn header writer old new = (file : File) → old.files writer.handle.file ≡ Some file
    → IsWritten writer (taken_up header false file.content) new

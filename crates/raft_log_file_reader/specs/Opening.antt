-- The header of a log file, and the errors with which opening the file can fail.
use Rattle.std.specs.Prelude.{◌≡◌, ℕ, ◌⊎◌, List, ◌++◌, length, take}
use Rattle.std.specs.declared.io.ErrorKind.{ErrorKind}
use Rattle.raft_log_record_base.specs.Fault.{FailsOrMemory}
use Rattle.raft_log_record_base.specs.declared.errors.Error.{Error}
use Rattle.raft_log_record_base.specs.declared.errors.Error.TheVariants as errors
use Rattle.raft_log_fs.specs.Disk.{Disk}
use Rattle.raft_log_fs.specs.Reading.{IsNotMeasured, IsUnread}
use Rattle.raft_log_fs.specs.declared.handle.Handle.{Handle}
use Rattle.raft_log_file_format.specs.Header.{IsFileHeader, header_at, header_bytes}
use Rattle.raft_log_file_format.specs.declared.header.LogFileFormat.{LogFileFormat}
use Rattle.raft_log_file_reader.specs.Source.{bytes_in}

-- `content` begins with the header of this format, as this code writes it, and the header ends at `end`
pub record SaysFormat (content : List ℕ) (format : LogFileFormat) (end : ℕ) : Type 0 where
  pub header : List ℕ
  pub rest : List ℕ
  pub says : IsFileHeader header format
  pub written : header ≡ header_bytes format
  pub splits : content ≡ header ++ rest
  pub ends : end ≡ length header

-- reading the first 69 bytes of the file failed; unreadable bytes after these don't matter for an open
abbrev pub IsUnreadInFront : Handle → Disk → ErrorKind → Type 0
IsUnreadInFront handle d kind = IsUnread handle 0 69 d kind

-- Why a file wasn't opened. If the error is `Io`, the file's size or its first 69 bytes couldn't be read. Otherwise the
-- error is `Memory`, or the fault of the header in these bytes.
abbrev pub FailsToOpen : Handle → Disk → Error → Type 0
FailsToOpen handle d (errors.Io kind) = IsNotMeasured handle d kind ⊎ IsUnreadInFront handle d kind
FailsToOpen handle d e = FailsOrMemory e (header_at (take 69 (bytes_in (d.files handle.file))))

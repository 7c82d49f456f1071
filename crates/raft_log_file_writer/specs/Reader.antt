-- What is read of one log file, and the errors with which reading it can fail.
use Rattle.std.specs.Prelude.{◌≡◌, ℕ, ◌⊎◌, ◌++◌, Bool, false, IsTrue, List, take, drop, Result, Ok}
use Rattle.raft_log_record_base.specs.declared.errors.Error.{Error}
use Rattle.raft_log_record_base.specs.declared.errors.Error.TheVariants as errors
use Rattle.raft_log_record_base.specs.Fault.{Fault, FailsOrMemory}
use Rattle.raft_log_file_format.specs.declared.header.LogFileFormat.{LogFileFormat}
use Rattle.raft_log_file_format.specs.Header.{IsFileHeader, header_at}
use Rattle.raft_log_fs.specs.Disk.{File, Disk}
use Rattle.raft_log_fs.specs.Arguments.{WrongName, IsAfterStop}
use Rattle.raft_log_fs.specs.Reading.{IsUnread, IsNotMeasured}
use Rattle.raft_log_fs.specs.Touching.{HasFile}
use Rattle.raft_log_fs.specs.declared.handle.Handle.{Handle}

-- Why the file at `path` wasn't opened. Either the file system has stopped. Or it runs, and memory ran out or no file
-- has the path.
abbrev pub IsOpenRefusal : List ℕ → Disk → Error → Type 0
IsOpenRefusal path d errors.Memory = d.stopped ≡ false
IsOpenRefusal path d (errors.Io kind) = IsAfterStop d kind ⊎ ((d.stopped ≡ false) × WrongName path d kind)
IsOpenRefusal path d _ = ⊥

-- why `count` bytes from the offset `at` on weren't read: the file system failed the read
abbrev pub IsReadRefusal : Handle → ℕ → ℕ → Disk → Error → Type 0
IsReadRefusal handle at count d (errors.Io kind) = IsUnread handle at count d kind
IsReadRefusal handle at count d _ = ⊥

-- why `count` bytes from the offset `at` on weren't read into a new buffer: the file system failed the read, or memory
-- ran out
abbrev pub IsBlockRefusal : Handle → ℕ → ℕ → Disk → Error → Type 0
IsBlockRefusal handle at count d errors.Memory = Unit {0}
IsBlockRefusal handle at count d error = IsReadRefusal handle at count d error

-- why the size of a file wasn't returned: the file system failed the call
abbrev pub IsSizeRefusal : Handle → Disk → Error → Type 0
IsSizeRefusal handle d (errors.Io kind) = IsNotMeasured handle d kind
IsSizeRefusal handle d _ = ⊥

-- `bytes` are the `count` bytes of the file from the offset `at` on, or fewer if the file ends first
abbrev pub AreBytesAt : ℕ → ℕ → List ℕ → File → Type 0
AreBytesAt at count bytes file = bytes ≡ take count (drop at file.content)

-- what reading a file's header returns; only the file's first 69 bytes are read, the length of the longest header
abbrev pub header_of : File → Result (LogFileFormat × List ℕ) Fault
header_of file = header_at (take 69 file.content)

-- a file begins with a header of this format
pub record BeginsWithHeader (format : LogFileFormat) (file : File) : Type 0 where
  pub header : List ℕ
  pub rest : List ℕ
  pub is : IsFileHeader header format
  pub splits : file.content ≡ header ++ rest

-- reading a file's header returns this format
abbrev pub GivesFormat : LogFileFormat → File → Type 0
GivesFormat format file = (rest : List ℕ) × (header_of file ≡ Ok (format, rest))

-- Why no format was read of a file: memory ran out, or the file system failed the read of the first 69 bytes. If reads
-- are honest, any other error is a fault of the header on disk.
abbrev pub IsFormatRefusal : Bool → Handle → Disk → Error → Type 0
IsFormatRefusal honest handle d errors.Memory = Unit {0}
IsFormatRefusal honest handle d (errors.Io kind) = IsUnread handle 0 69 d kind
IsFormatRefusal honest handle d error =
    IsTrue honest → HasFile handle.file (λ file. FailsOrMemory error (header_of file)) d

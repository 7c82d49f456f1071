-- The bytes of a file that a reader has open, and why reading some of them fails.
use Rattle.std.specs.Prelude.{ℕ, ◌+◌, ◌≤◌, List, [], Option, Some, None}
use Rattle.std.specs.declared.io.ErrorKind.{ErrorKind}
use Rattle.raft_log_record_base.specs.declared.errors.Error.{Error}
use Rattle.raft_log_record_base.specs.declared.errors.Error.TheVariants as errors
use Rattle.raft_log_fs.specs.Disk.{Disk, File}
use Rattle.raft_log_fs.specs.Reading.{IsUnread}
use Rattle.raft_log_file_reader.specs.declared.source.Source.{Source}

-- the bytes of a file; none if it doesn't exist
abbrev pub bytes_in : Option File → List ℕ
bytes_in None = []
bytes_in (Some file) = file.content

-- the content of the file on the disk; none if it was deleted
abbrev pub bytes_of : Source → Disk → List ℕ
bytes_of source d = bytes_in (d.files source.handle.file)

-- the file system failed a read of the file that asked only for bytes at or after `offset`
pub record IsUnreadFrom (source : Source) (offset : ℕ) (d : Disk) (kind : ErrorKind) : Type 0 where
  pub at : ℕ
  pub count : ℕ
  pub behind : offset ≤ at
  pub inside : at + count ≤ source.size
  pub unread : IsUnread source.handle at count d kind

-- why bytes at or after `offset` weren't read: the file system failed a read, or memory ran out
abbrev pub CannotRead : Source → ℕ → Disk → Error → Type 0
CannotRead source offset d (errors.Io kind) = IsUnreadFrom source offset d kind
CannotRead source offset d errors.Memory = Unit {0}
CannotRead source offset d _ = ⊥

-- why `count` bytes of the file from `offset` on weren't read: the file system failed the read, or memory ran out
abbrev pub CannotReadPart : Source → ℕ → ℕ → Disk → Error → Type 0
CannotReadPart source offset count d (errors.Io kind) = IsUnread source.handle offset count d kind
CannotReadPart source offset count d errors.Memory = Unit {0}
CannotReadPart source offset count d _ = ⊥

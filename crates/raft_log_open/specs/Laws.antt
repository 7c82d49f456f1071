-- An open reads the same from a file's bytes without padding as from its bytes with padding.
use Rattle.std.specs.Prelude.{◌≡◌, ℕ, Bool, Some, List, drop, take, is_some}
use Rattle.std.specs.List.{AllZip}
use Rattle.std.specs.String.{string_bytes}
use Rattle.raft_log_record_base.specs.Fault.{Fault}
use Rattle.raft_log_record_base.specs.declared.pipe_log.FileId.{FileId}
use Rattle.raft_log_record_base.specs.declared.pipe_log.FileBlockHandle.{FileBlockHandle}
use Rattle.raft_log_record_items.specs.Placed.{placed}
use Rattle.raft_log_record_items.specs.declared.item.LogItem.{LogItem}
use Rattle.raft_log_fs.specs.Disk.{Disk}
use Rattle.raft_log_fs.specs.declared.handle.Handle.{Handle}
use Rattle.raft_log_file_reader.specs.Batches.{HasNoMore, IsBroken}
use Rattle.raft_log_file_reader.specs.Opening.{SaysFormat}
use Rattle.raft_log_file_reader.specs.declared.open_file.OpenFile.{OpenFile}
use Rattle.raft_log_recovery_read.specs.Reading.{FileReading, ReadsBytes, ReadsFileAs}
use Rattle.raft_log_open.specs.Content.{HasAllBytes, IsPadded, IsWithoutPadding, plain_format}
use Rattle.raft_log_open.specs.PaddingReading.{content_of}
use Rattle.raft_log_open.specs.Unpadding.{WritesAnew, listed_as}
use Rattle.raft_log_open.specs.declared.placed_file.PlacedFile.{PlacedFile}

-- The records.

-- The bytes `new` have a header of the same version without alignment, and then the records of `content`, byte for
-- byte. If no record follows these in `content`, `new` ends after them. If a broken record follows in `content`, one
-- follows in `new`.
pub record KeepsRecords (id : FileId) (content new : List ℕ) (old : IsWithoutPadding id content new) : Type 0 where
  pub file : OpenFile
  pub is : file.id ≡ id
  pub plain : file.format ≡ plain_format old.file.format
  pub start : ℕ
  pub says : SaysFormat new file.format start
  pub end : ℕ
  pub records : HasAllBytes file new start old.are.records end
  pub ends : HasNoMore old.file content old.are.end → HasNoMore file new end
  pub breaks : (fault : Fault) → IsBroken old.file content old.are.end fault
      → (other : Fault) × IsBroken file new end other

-- `KeepsRecords` holds for each file and its bytes without padding
abbrev pub RecordsReadTheSame : Type 0
RecordsReadTheSame =
    (id : FileId) (content new : List ℕ) (old : IsWithoutPadding id content new) → KeepsRecords id content new old

-- What an open reads.

-- the bytes at the location `block`, if `content` are the bytes of its file
abbrev pub placed_bytes : FileBlockHandle → List ℕ → List ℕ
placed_bytes block content = take block.len (drop block.offset content)

-- `others` are the same items as `items`. Their entry block is in the same file and has the same bytes, perhaps at
-- another offset.
pub record AreMoved (content new : List ℕ) (items others : List LogItem) : Type 0 where
  pub plain : List LogItem
  pub from : FileBlockHandle
  pub to : FileBlockHandle
  pub lay : items ≡ placed from plain
  pub lie : others ≡ placed to plain
  pub same_file : to.id ≡ from.id
  pub same_len : to.len ≡ from.len
  pub same : placed_bytes to new ≡ placed_bytes from content

-- `old` was read from the bytes `content`, and `read` from the bytes `new`. Both have the same batches in the same
-- order, perhaps with entry blocks at other offsets. The format of `read` has the same version, and no alignment.
-- Either both end with a fault, or neither does.
pub record ReadsMoved (content new : List ℕ) (old read : FileReading) : Type 0 where
  pub plain : read.format ≡ plain_format old.format
  pub batches : AllZip (AreMoved content new) old.batches read.batches
  pub header : (end : ℕ) × (read.end ≡ Some end)
  pub damage : is_some read.fault ≡ is_some old.fault

-- Reading a file with padding, and reading its bytes without padding, give the same result, except for the alignment
-- and the locations of the entries.
abbrev pub FilesReadTheSame : Type 0
FilesReadTheSame = (last : Bool) (id : FileId) (content new : List ℕ) (old read : FileReading)
    → IsPadded last id content → IsWithoutPadding id content new → ReadsBytes last id content old
    → ReadsBytes last id new read → ReadsMoved content new old read

-- On the disk.

-- After a file was written without padding, reading it gives the same result as before, except for the alignment and
-- the locations of the entries.
abbrev pub WrittenFilesReadTheSame : Type 0
WrittenFilesReadTheSame =
    (file : PlacedFile) (d new : Disk) (handle : Handle) (old read : FileReading) (writes : WritesAnew file d new)
    → new.names (string_bytes file.path) ≡ Some handle.file
    → ReadsFileAs file.is_last file.id writes.handle d old → ReadsFileAs file.is_last file.id handle new read
    → ReadsMoved (content_of (listed_as file writes.handle) d) writes.bytes old read

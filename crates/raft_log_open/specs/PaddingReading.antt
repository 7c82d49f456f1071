-- Reading a log file, to find the bytes that it will have without its padding.
use Rattle.std.specs.Prelude.{◌≡◌, ℕ, ◌<◌, ◌≤◌, ◌++◌, length, List, Some, IsTrue}
use Rattle.raft_log_record_base.specs.Fault.{Fault}
use Rattle.raft_log_record_items.specs.declared.item.LogItem.{LogItem}
use Rattle.raft_log_fs.specs.Disk.{Disk}
use Rattle.raft_log_file_reader.specs.Source.{bytes_in}
use Rattle.raft_log_file_reader.specs.Batches.{HasBatch, HasNoMore, IsBroken}
use Rattle.raft_log_file_reader.specs.Reader.{end_of, file_of, honest_of}
use Rattle.raft_log_file_reader.specs.declared.open_file.OpenFile.{OpenFile}
use Rattle.raft_log_file_reader.specs.declared.reader.LogItemBatchFileReader.{LogItemBatchFileReader}
use Rattle.raft_log_recovery_read.specs.declared.found_file.ListedFile.{ListedFile}
use Rattle.raft_log_open.specs.Content.{AreJoined, IsPadded, IsUnpadded, IsWithoutPadding}
use Rattle.raft_log_open.specs.declared.content.Next.{Next}
use Rattle.raft_log_open.specs.declared.content.Next.TheVariants as nexts

-- the bytes of the file on the disk
abbrev pub content_of : ListedFile → Disk → List ℕ
content_of file d = bytes_in (d.files file.handle.file)

-- the file isn't rewritten: it has no alignment or no header, or is a last file without a whole record (`IsUnpadded`)
abbrev pub NeedsNothing : Disk → ListedFile → Type 0
NeedsNothing d file = IsUnpadded file.is_last file.id (content_of file d)

-- the file has an alignment (`IsPadded`), and `bytes` are its bytes without the padding between its records
pub record NeedsBytes (d : Disk) (file : ListedFile) (bytes : List ℕ) : Type 0 where
  pub padded : IsPadded file.is_last file.id (content_of file d)
  pub without : IsWithoutPadding file.id (content_of file d) bytes

-- the reader read the next record after the offset of `old`; the record begins at offset `start`
pub record ReadsNext (file : OpenFile) (content : List ℕ) (old new : LogItemBatchFileReader) (start : ℕ)
    : Type 0 where
  pub items : List LogItem
  pub batch : HasBatch file content (end_of old) items (end_of new)
  pub begins : start ≡ batch.at

-- The reader read on from the offset of `old` to a further one, which `start` isn't after. If all reads of the file
-- were honest, it read the next record, which begins at `start`.
pub record MovesOn (file : OpenFile) (content : List ℕ) (old new : LogItemBatchFileReader) (start : ℕ)
    : Type 0 where
  pub reads : IsTrue (honest_of new) → ReadsNext file content old new start
  pub inside : start ≤ end_of new
  pub further : end_of old < end_of new

-- What follows the offset of `old` in the open file, whose bytes are `content`, if all reads of the file were honest:
-- - `Record start`: a record, which was read.
-- - `End`: nothing more.
-- - `Broken`: a broken record, which wasn't read.
abbrev pub FindsNext : OpenFile → List ℕ → LogItemBatchFileReader → LogItemBatchFileReader → Next → Type 0
FindsNext file content old new (nexts.Record start) = MovesOn file content old new start
FindsNext file content old new nexts.End = IsTrue (honest_of new) → HasNoMore file content (end_of old)
FindsNext file content old new nexts.Broken = IsTrue (honest_of new)
    → (fault : Fault) × IsBroken file content (end_of old) fault × (end_of new ≡ end_of old)

-- the reader has a file open, and `content` has as many bytes as that file
pub record HasOpen (reader : LogItemBatchFileReader) (content : List ℕ) : Type 0 where
  pub file : OpenFile
  pub opened : file_of reader ≡ Some file
  pub size : length content ≡ file.source.size

-- the file's records from `offset` on were appended to `old`, without padding, and then what follows the last record
pub record Joins (file : OpenFile) (content : List ℕ) (offset : ℕ) (old new : List ℕ) : Type 0 where
  pub bytes : List ℕ
  pub are : AreJoined file content offset bytes
  pub more : new ≡ old ++ bytes

-- A reader of one log file at a time: its state, and what its calls return.
use Rattle.std.specs.Prelude.{◌≡◌, ℕ, ◌+◌, ◌-◌, ◌≤◌, length, Bool, IsTrue, Option, Some, None, MatchOption}
use Rattle.std.specs.Option.{ForSome}
use Rattle.raft_log_record_base.specs.declared.pipe_log.FileId.{FileId}
use Rattle.raft_log_record_base.specs.declared.pipe_log.FileBlockHandle.{FileBlockHandle}
use Rattle.raft_log_fs.specs.Disk.{Disk}
use Rattle.raft_log_fs.specs.declared.handle.Handle.{Handle}
use Rattle.raft_log_file_format.specs.declared.header.LogFileFormat.{LogFileFormat}
use Rattle.raft_log_record_frames.specs.ItemBatch.{ItemBatch}
use Rattle.raft_log_file_reader.specs.Source.{bytes_of}
use Rattle.raft_log_file_reader.specs.Holding.{HoldsPart}
use Rattle.raft_log_file_reader.specs.Opening.{SaysFormat}
use Rattle.raft_log_file_reader.specs.Batches.{HasBatch, HasNoMore}
use Rattle.raft_log_file_reader.specs.declared.source.Source.{Source}
use Rattle.raft_log_file_reader.specs.declared.open_file.OpenFile.{OpenFile}
use Rattle.raft_log_file_reader.specs.declared.reader.LogItemBatchFileReader.{LogItemBatchFileReader}

-- the file that the reader has open, if any
abbrev pub file_of : LogItemBatchFileReader → Option OpenFile
file_of reader = reader.file

-- where the last valid record that was read ends; if none was read yet, where the header ends
abbrev pub end_of : LogItemBatchFileReader → ℕ
end_of reader = reader.valid_offset

-- the location of the entry block of the batch that was read last
abbrev pub last_block : LogItemBatchFileReader → FileBlockHandle
last_block reader = reader.last_block

-- whether all reads of the open file returned what the disk holds
abbrev pub honest_of : LogItemBatchFileReader → Bool
honest_of reader = reader.window.receipt.honest

-- If the window's reads were honest, the reader's window has bytes of this file on disk `d` (`HoldsPart`). The reader's
-- offset is within the file.
pub record IsReadingFile (d : Disk) (reader : LogItemBatchFileReader) (file : OpenFile) : Type 0 where
  pub holds : HoldsPart file.source d reader.window
  pub within : reader.valid_offset ≤ file.source.size

-- if the reader has a file open, its window and its offset fit that file on the disk (`IsReadingFile`)
abbrev pub IsReading : Disk → LogItemBatchFileReader → Type 0
IsReading d reader = ForSome reader.file (IsReadingFile d reader)

-- `IsReading` holds for the reader, and all reads of the open file were honest
pub record ReadsHonestly (d : Disk) (reader : LogItemBatchFileReader) : Type 0 where
  pub reading : IsReading d reader
  pub honest : IsTrue (honest_of reader)

-- if the reader has a file open, the location ends within that file's size
abbrev pub IsInsideFile : FileBlockHandle → LogItemBatchFileReader → Type 0
IsInsideFile block reader = ForSome reader.file (λ file. block.offset + block.len ≤ file.source.size)

-- the reader has no file open, and its offset is 0
pub record HasNoneOpen (reader : LogItemBatchFileReader) : Type 0 where
  pub file : file_of reader ≡ None
  pub end : end_of reader ≡ 0

-- The reader has the file with this id and handle open. If all reads were honest, the file begins with a header of this
-- format, and the reader's offset is at the end of the header.
pub record Opens (id : FileId) (handle : Handle) (d : Disk) (format : LogFileFormat)
    (reader : LogItemBatchFileReader) : Type 0 where
  pub source : Source
  pub reads_by : source.handle ≡ handle
  pub size : source.size ≡ length (bytes_of source d)
  pub opened : file_of reader ≡ Some (record { id = id; source = source; format = format })
  pub header : IsTrue (honest_of reader) → SaysFormat (bytes_of source d) format (end_of reader)

-- `new` has the same file open as `old`, the same offset, and the same last entry block
pub record IsUnmoved (old new : LogItemBatchFileReader) : Type 0 where
  pub file : file_of new ≡ file_of old
  pub end : end_of new ≡ end_of old
  pub block : last_block new ≡ last_block old

-- Reading the next batch of `file` changed the reader `old` into `new`, and returned `found`. If `found` is a batch, it
-- is the next one after the offset of `old`, and ends at the offset of `new`. If `found` is `None`, no batch follows,
-- and the reader has the same offset as before.
abbrev pub AnswersBatch : Disk → OpenFile → LogItemBatchFileReader → LogItemBatchFileReader → Option ItemBatch
    → Type 0
AnswersBatch d file old new found = MatchOption found
    (HasNoMore file (bytes_of file.source d) (end_of old) × IsUnmoved old new)
    (λ batch. HasBatch file (bytes_of file.source d) (end_of old) batch.items (end_of new))

-- the size of the open file; 0 if none is open
abbrev pub size_in : Option OpenFile → ℕ
size_in None = 0
size_in (Some file) = file.source.size

-- how many bytes of the open file are after the reader's offset
abbrev pub left_of : LogItemBatchFileReader → ℕ
left_of reader = size_in (file_of reader) - end_of reader

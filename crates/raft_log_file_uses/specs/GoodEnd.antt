-- Where the good records of a log file end.
use Rattle.std.specs.Prelude.{◌≡◌, ℕ, ◌-◌, IsTrue, List, Option, None, Some}
use Rattle.raft_log_record_base.specs.declared.pipe_log.FileId.{FileId}
use Rattle.raft_log_record_items.specs.declared.item.LogItem.{LogItem}
use Rattle.raft_log_fs.specs.Disk.{Disk}
use Rattle.raft_log_fs.specs.declared.handle.Handle.{Handle}
use Rattle.raft_log_file_reader.specs.Source.{bytes_of}
use Rattle.raft_log_file_reader.specs.Opening.{SaysFormat}
use Rattle.raft_log_file_reader.specs.Batches.{HasBatches}
use Rattle.raft_log_file_reader.specs.Laws.{EndsBehind}
use Rattle.raft_log_file_reader.specs.Reader.{IsReading, file_of, end_of, size_in, honest_of}
use Rattle.raft_log_file_reader.specs.declared.open_file.OpenFile.{OpenFile}
use Rattle.raft_log_file_reader.specs.declared.reader.LogItemBatchFileReader.{LogItemBatchFileReader}

-- `file`, the log file `id` on the disk `d`, is open by this handle. Its batches follow one another from the end of its
-- header up to offset `end`.
pub record HasReadTo (id : FileId) (handle : Handle) (d : Disk) (file : OpenFile) (end : ℕ) : Type 0 where
  pub is : file.id ≡ id
  pub reads_by : file.source.handle ≡ handle
  pub start : ℕ
  pub header : SaysFormat (bytes_of file.source d) file.format start
  pub batches : List (List LogItem)
  pub has : HasBatches file (bytes_of file.source d) start batches end

-- The file's batches follow one another from the end of its header up to offset `end`. From there on the file has
-- nothing or only padding, or its next record is broken.
pub record EndsItsBatches (id : FileId) (handle : Handle) (d : Disk) (end : ℕ) : Type 0 where
  pub file : OpenFile
  pub read : HasReadTo id handle d file end
  pub ends : EndsBehind file (bytes_of file.source d) end

-- The reader has this file open, and has read its batches from the end of the header up to the reader's offset. All its
-- reads were honest: each returned what the disk holds.
pub record HasReadSoFar (id : FileId) (handle : Handle) (d : Disk)
    (reader : LogItemBatchFileReader) : Type 0 where
  pub reading : IsReading d reader
  pub honest : IsTrue (honest_of reader)
  pub file : OpenFile
  pub opened : file_of reader ≡ Some file
  pub read : HasReadTo id handle d file (end_of reader)

-- What reading a log file returns, compared with the records in the file. All of this is for files without an
-- alignment, since no file of a pipe has one.
use Rattle.std.specs.Prelude.{◌≡◌, ℕ, ◌+◌, Bool, Option, Some, None, true, false, List, [], length}
use Rattle.raft_log_record_base.specs.declared.pipe_log.FileId.{FileId}
use Rattle.raft_log_record_base.specs.declared.pipe_log.LogFileContext.{LogFileContext}
use Rattle.raft_log_fs.specs.Disk.{File}
use Rattle.raft_log_file_writer.specs.LawsChains.{Written, Reads, spelled}
use Rattle.raft_log_file_writer.specs.LogFormat.{HasHeader}
use Rattle.raft_log_file_writer.specs.LogQueue.{Past, IsPast}
use Rattle.raft_log_active_file.specs.Reopening.{IsReadTo}
use Rattle.raft_log_file_format.specs.Header.{header_bytes}
use Rattle.raft_log_file_format.specs.declared.header.LogFileFormat.{LogFileFormat}
use Rattle.raft_log_engine_laws.specs.raft_log_active_file.specs.QueueFiles.{log_format}
use Rattle.raft_log_engine_laws.specs.raft_log_active_file.specs.declared.record.LogRecord.{LogRecord}
use Rattle.raft_log_recovery_read.specs.Reading.{FileReading, ReadsBytes}
use Rattle.raft_log_recovery_laws.specs.Records.{AreBatchesOf}

-- the file's identity and format version, with which its records are signed
abbrev pub context_in : FileId → LogFileFormat → LogFileContext
context_in id format = record { id = id; version = format.version }

-- `content`, the bytes of the file `id`, begins with a header. `read`, what reading it returned, has one batch for each
-- whole record after the header. These records end at `end`, and no other record begins there.
pub record ReadsRecords (directories : List (List ℕ)) (id : FileId) (content : List ℕ)
    (read : FileReading) (end : ℕ) : Type 0 where
  pub header : List ℕ
  pub begins : HasHeader (log_format id.queue directories) header content
  pub records : List (Written LogRecord)
  pub reads : Reads ((log_format id.queue directories).IsFrame id.seq header) (length header) records content
  pub ends : end ≡ length header + length (spelled records)
  pub batches : AreBatchesOf (context_in id read.format) (length header) read.batches records

-- `read` is what reading a queue's last file returned, and the last argument is the end that was found. If no end was
-- found, the file has no header, and `read` has no batch. Otherwise `read` has one batch for each whole record up to
-- the end.
abbrev pub ReadsTo : List (List ℕ) → FileId → List ℕ → FileReading → Option ℕ → Type 0
ReadsTo directories id content read None =
    ((header : List ℕ) → HasHeader (log_format id.queue directories) header content → ⊥)
    × (read.batches ≡ [])
ReadsTo directories id content read (Some end) = ReadsRecords directories id content read end

-- Reading a queue's last file returns one batch for each whole record, and the end of these records. If the file has no
-- header, it returns neither.
abbrev pub LastFileIsRead : Type 0
LastFileIsRead = (directories : List (List ℕ)) (id : FileId) (file : File) (read : FileReading)
    → ReadsBytes true id file.content read → read.format.alignment ≡ 0
    → ReadsTo directories id file.content read read.end
    × IsReadTo (log_format id.queue directories) id.seq read.end file

-- If reading a file found an end, the file begins with the header that encodes the format that was read.
abbrev pub HeaderIsWritten : Type 0
HeaderIsWritten = (directories : List (List ℕ)) (last : Bool) (id : FileId) (content : List ℕ)
    (read : FileReading) (end : ℕ) → ReadsBytes last id content read → read.format.alignment ≡ 0
    → read.end ≡ Some end → HasHeader (log_format id.queue directories) (header_bytes read.format) content

-- `read` has one batch for each record of the finished file `past`, and no fault was found. The end in `read` is where
-- these records end.
pub record ReadsWhole (id : FileId) (past : Past LogRecord) (read : FileReading) : Type 0 where
  pub sound : read.fault ≡ None
  pub end : read.end ≡ Some (length past.header + length (spelled past.records))
  pub batches : AreBatchesOf (context_in id read.format) (length past.header)
      read.batches past.records

-- Reading a finished file, one before the last, returns all its records.
abbrev pub FinishedFileIsRead : Type 0
FinishedFileIsRead = (directories : List (List ℕ)) (id : FileId) (past : Past LogRecord) (file : File)
    (read : FileReading) → IsPast (log_format id.queue directories) id.seq past file
    → ReadsBytes false id file.content read → read.format.alignment ≡ 0 → ReadsWhole id past read

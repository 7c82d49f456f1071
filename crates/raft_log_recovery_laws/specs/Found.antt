-- What recovery read from a queue's files at rest, and the queue as it continues after recovery. The ending of a file
-- is what reading it found: its format, the end of its last whole record, and whether the file is damaged.
use Rattle.std.specs.Prelude.{◌≡◌, ℕ, ◌<◌, Some, false, List, [], ◌∷◌, ◌++◌, length}
use Rattle.raft_log_record_base.specs.declared.pipe_log.LogQueue.{LogQueue}
use Rattle.raft_log_fs.specs.Disk.{Disk}
use Rattle.raft_log_file_writer.specs.LogQueue.{LogFiles, recent}
use Rattle.raft_log_file_format.specs.Header.{header_bytes}
use Rattle.raft_log_file_format.specs.declared.header.LogFileFormat.{LogFileFormat}
use Rattle.raft_log_file_settings.specs.declared.recovery_mode.RecoveryMode.{RecoveryMode}
use Rattle.raft_log_active_file.specs.Layout.{path_of}
use Rattle.raft_log_active_file.specs.declared.format.File.{File}
use Rattle.raft_log_engine_laws.specs.raft_log_active_file.specs.declared.record.LogRecord.{LogRecord}
use Rattle.raft_log_file_pipe.specs.Files.{IsSpan}
use Rattle.raft_log_file_pipe.specs.Opening.{first_number}
use Rattle.raft_log_replay.specs.Machines.{Batch}
use Rattle.raft_log_replay.specs.Segments.{all_batches}
use Rattle.raft_log_replay.specs.Sources.{HoldEach}
use Rattle.raft_log_recovery_read.specs.Segments.{HoldsFile}
use Rattle.raft_log_recovery_read.specs.declared.file_ending.FileEnding.{FileEnding}
use Rattle.raft_log_dual_pipes.specs.Queues.{QueueLayout}
use Rattle.raft_log_dual_pipes.specs.State.{IsStopped, Spanned}
use Rattle.raft_log_dual_pipes.specs.Own.{log_layout}
use Rattle.raft_log_engine_laws.specs.raft_log_block_cache.specs.Stored.{Each}
use Rattle.raft_log_recovery_laws.specs.Reading.{AreOfQueue}

-- On disk `d`, recovery in `mode` read `batches` from the files of a queue, and `endings` has the ending of each file.
-- No file has an alignment, since no file of a pipe has one.
pub record ReadsQueue (mode : RecoveryMode) (queue : LogQueue) (files : List File) (d : Disk)
    (batches : List Batch) (endings : List FileEnding) : Type 0 where
  pub segments : List (List Batch)
  pub held : HoldEach (HoldsFile mode queue files d) 0 segments endings
  pub all : length segments ≡ length files
  pub is : batches ≡ all_batches segments
  pub unaligned : Each (λ (e : FileEnding). e.format.alignment ≡ 0) endings

-- The files have consecutive numbers up to `number`, which is that of `last`. Each is at the path of its number.
pub record AreListed (layout : QueueLayout LogRecord) (earlier : List File) (last : File) (number : ℕ)
    (d : Disk) : Type 0 where
  pub number_is : last.seq ≡ number
  pub listed : last.reserved ≡ false
  pub named : d.names (path_of layout.paths last) ≡ Some last.handle.file
  pub span : IsSpan layout.paths d.names (first_number earlier last) earlier number

-- After recovery, the queue `was` continues as `now`, whose live range begins at `first`. Its finished files are the
-- same. Its last file has the header of `format` and the same records.
pub record QueueGoesOnWith (first : ℕ) (format : LogFileFormat) (was : LogFiles LogRecord)
    (now : Spanned LogRecord) : Type 0 where
  pub begins : now.first ≡ first
  pub older : now.files.older ≡ was.older
  pub last : now.files.last ≡ was.last
  pub header : now.files.header ≡ header_bytes format
  pub records : recent now.files ≡ recent was

-- if reading the queue's last file found an end, the file has the format `format`
abbrev pub TellsLast : List FileEnding → LogFileFormat → Type 0
TellsLast endings format =
    (front : List FileEnding) (ending : FileEnding) → endings ≡ front ++ ending ∷ []
    → (end : ℕ) → ending.end ≡ Some end → ending.format ≡ format

-- The queue `was` is at rest, and `now` is the queue after recovery. The batches that are read from the files of `was`
-- are those of the records of `now`.
abbrev pub ReadFilesAreTheQueue : Type 0
ReadFilesAreTheQueue = (queue : LogQueue) (directories : List (List ℕ)) → 0 < length directories
    → (mode : RecoveryMode) (d : Disk) (was : LogFiles LogRecord)
    → IsStopped (log_layout queue directories) was d → (earlier : List File) (last : File)
    → AreListed (log_layout queue directories) earlier last was.last d
    → (batches : List Batch) (endings : List FileEnding)
    → ReadsQueue mode queue (earlier ++ last ∷ []) d batches endings
    → (format : LogFileFormat) → TellsLast endings format → (now : Spanned LogRecord)
    → QueueGoesOnWith (first_number earlier last) format was now → AreOfQueue queue now batches

-- If a queue has no files, no batch is read. This fits the queue `now`, which begins with one file and no records.
abbrev pub NoFilesAreTheQueue : Type 0
NoFilesAreTheQueue = (queue : LogQueue) (mode : RecoveryMode) (d : Disk) (batches : List Batch)
    (endings : List FileEnding) → ReadsQueue mode queue [] d batches endings → (now : Spanned LogRecord)
    → now.first ≡ now.files.last → recent now.files ≡ [] → AreOfQueue queue now batches

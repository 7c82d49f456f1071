-- The files of a queue as a scan returns them and as a pipe needs them.
use Rattle.std.specs.Prelude.{◌≡◌, ℕ, true, false, List, [], ◌∷◌, ◌++◌}
use Rattle.raft_log_record_base.specs.declared.pipe_log.LogQueue.{LogQueue}
use Rattle.raft_log_record_base.specs.declared.pipe_log.LogQueue.TheVariants as queues
use Rattle.raft_log_fs.specs.Disk.{Disk}
use Rattle.raft_log_fs.specs.Image.{IsSound}
use Rattle.raft_log_fs.specs.Reading.{IsOpened}
use Rattle.raft_log_fs.specs.declared.handle.Permission.TheVariants.{ReadWrite}
use Rattle.raft_log_file_format.specs.declared.header.LogFileFormat.{LogFileFormat}
use Rattle.raft_log_file_settings.specs.declared.recovery_mode.RecoveryMode.{RecoveryMode}
use Rattle.raft_log_engine_laws.specs.raft_log_active_file.specs.QueueFiles.{log_format, log_paths}
use Rattle.raft_log_active_file.specs.Layout.{path_of}
use Rattle.raft_log_file_pipe.specs.Files.{Listed, AllKept, IsSpan}
use Rattle.raft_log_file_pipe.specs.Laws as pipes
use Rattle.raft_log_file_pipe.specs.Opening.{first_number}
use Rattle.raft_log_recovery_read.specs.Reading.{FileReading, ReadsFileAs}
use Rattle.raft_log_recovery_scan.specs.Scanned.{IsQueueIn}
use Rattle.raft_log_recovery_scan.specs.declared.file_kind.FileKind.{FileKind}
use Rattle.raft_log_recovery_scan.specs.declared.file_kind.FileKind.TheVariants as kinds

-- the kind of a queue's files
abbrev pub kind_of : LogQueue → FileKind
kind_of queues.Append = kinds.Append
kind_of queues.Rewrite = kinds.Rewrite

-- the file with this format, which was read from its header
abbrev pub with_format : LogFileFormat → Listed → Listed
with_format format file = record file { format = format }

-- The files have consecutive numbers, each is at the path of its number, and the last one is open for reading and
-- writing.
pub record AreSpanned (queue : LogQueue) (directories : List (List ℕ)) (earlier : List Listed)
    (last : Listed) (d : Disk) : Type 0 where
  pub listed : last.reserved ≡ false
  pub opened : IsOpened (path_of (log_paths queue directories) last) ReadWrite last.handle d
  pub span : IsSpan (log_paths queue directories) d.names (first_number earlier last) earlier last.seq

-- The files of a queue that a scan returns have consecutive numbers, each at the path of its number. The last one is
-- open for reading and writing.
abbrev pub ScannedFilesAreSpanned : Type 0
ScannedFilesAreSpanned = (queue : LogQueue) (directories : List (List ℕ)) (mode : RecoveryMode) (d : Disk)
    (earlier : List Listed) (last : Listed)
    → IsQueueIn (kind_of queue) directories d mode (earlier ++ last ∷ [])
    → AreSpanned queue directories earlier last d

-- A scan found a queue's files, and reading the last one found no alignment. Each file in `kept` can be recycled. Then
-- the files meet the premise for opening a pipe over files that a stop left.
abbrev pub ReadFilesAreScanned : Type 0
ReadFilesAreScanned = (queue : LogQueue) (directories : List (List ℕ)) (d : Disk) (earlier : List Listed)
    (last : Listed) (read : FileReading) (kept : List Listed) → IsSound d
    → AreSpanned queue directories earlier last d
    → ReadsFileAs true (record { queue = queue; seq = last.seq }) last.handle d read
    → read.format.alignment ≡ 0
    → AllKept (log_format queue directories) (log_paths queue directories) (first_number earlier last) d kept
    → pipes.AreFoundOnDisk (log_format queue directories) (log_paths queue directories) earlier
    (with_format read.format last) read.end kept last.seq d

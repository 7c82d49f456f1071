-- A scan of a log's directories finds the files of a queue that is at rest there, from the last gap in their numbers
-- on.
use Rattle.std.specs.Prelude.{◌≡◌, ℕ, ◌<◌, suc, List, [], ◌∷◌, ◌++◌}
use Rattle.raft_log_record_base.specs.declared.pipe_log.LogQueue.{LogQueue}
use Rattle.raft_log_fs.specs.Disk.{Disk}
use Rattle.raft_log_fs.specs.Image.{IsSound}
use Rattle.raft_log_file_writer.specs.LogQueue.{LogFiles, IsAbsent, IsLeftover}
use Rattle.raft_log_active_file.specs.Standing.{Names, Stands}
use Rattle.raft_log_engine_laws.specs.raft_log_active_file.specs.QueueFiles.{log_format}
use Rattle.raft_log_engine_laws.specs.raft_log_active_file.specs.Paths.{IsOwnPath}
use Rattle.raft_log_engine_laws.specs.raft_log_active_file.specs.declared.record.LogRecord.{LogRecord}
use Rattle.raft_log_file_settings.specs.declared.recovery_mode.RecoveryMode.{RecoveryMode}
use Rattle.raft_log_file_pipe.specs.Files.{Listed}
use Rattle.raft_log_file_pipe.specs.Opening.{first_number}
use Rattle.raft_log_recovery_scan.specs.Found.{AreDistinct}
use Rattle.raft_log_recovery_scan.specs.Scanned.{IsQueueIn}
use Rattle.raft_log_recovery_laws.specs.Scanned.{AreSpanned, kind_of}

-- `files` ends with the queue's last file, of number `number`. Their numbers have no gap, and each file is at the path
-- of its number. The first of them comes after a gap: no file of the queue has the number before it.
pub record AreAllFound (queue : LogQueue) (directories : List (List ℕ)) (number : ℕ) (d : Disk)
    (files : List Listed) : Type 0 where
  pub earlier : List Listed
  pub last : Listed
  pub split : files ≡ earlier ++ last ∷ []
  pub number_is : last.seq ≡ number
  pub spanned : AreSpanned queue directories earlier last d
  pub begins : (m : ℕ) → suc m ≡ first_number earlier last → IsAbsent (log_format queue directories) m d

-- The queue `q` is at rest in distinct directories. Then a scan of these directories returns the queue's files from the
-- last gap in the file numbers on. On disk `d`, the queue's last file is at `path` and has the node number `id`. `N`
-- are the names on the disk.
abbrev pub ScannedFilesAreAll : Type 0
ScannedFilesAreAll = (queue : LogQueue) (directories : List (List ℕ)) → AreDistinct directories
    → (mode : RecoveryMode) (d : Disk) → IsSound d
    → (q : LogFiles LogRecord) (path : List ℕ) (id : ℕ) (N : Names)
    → Stands (log_format queue directories) (IsOwnPath queue directories) d q path id
    (IsLeftover (log_format queue directories) q) N d
    → (files : List Listed) → IsQueueIn (kind_of queue) directories d mode files
    → AreAllFound queue directories q.last d files

-- If a queue has no file under any number, a scan of the queue returns none.
abbrev pub NoFilesAreScanned : Type 0
NoFilesAreScanned = (queue : LogQueue) (directories : List (List ℕ)) (mode : RecoveryMode) (d : Disk)
    → ((m : ℕ) → m < (log_format queue directories).limit → IsAbsent (log_format queue directories) m d)
    → (files : List Listed) → IsQueueIn (kind_of queue) directories d mode files → files ≡ []

-- The first of a queue's files that a scan returns.
use Rattle.std.specs.Prelude.{◌≡◌, ℕ, ◌⊎◌, suc, List, [], ◌∷◌, ◌++◌}
use Rattle.raft_log_record_base.specs.declared.pipe_log.LogQueue.{LogQueue}
use Rattle.raft_log_fs.specs.Disk.{Disk}
use Rattle.raft_log_file_writer.specs.LogQueue.{IsAbsent}
use Rattle.raft_log_engine_laws.specs.raft_log_active_file.specs.QueueFiles.{log_format}
use Rattle.raft_log_file_settings.specs.declared.recovery_mode.RecoveryMode.{RecoveryMode}
use Rattle.raft_log_file_pipe.specs.Files.{Listed}
use Rattle.raft_log_file_pipe.specs.Opening.{first_number}
use Rattle.raft_log_recovery_scan.specs.Found.{FileLiesIn}
use Rattle.raft_log_recovery_scan.specs.Scanned.{IsQueueIn}
use Rattle.raft_log_recovery_scan.specs.declared.file_kind.FileKind.{FileKind}
use Rattle.raft_log_recovery_scan.specs.declared.scanning.found.FoundFile.{FoundFile}
use Rattle.raft_log_recovery_laws.specs.Scanned.{kind_of}

-- A scan of the directories finds two files with the number `n`. They are in two directories (or one that the settings
-- name twice), or one of their names has a plus sign.
pub record IsTwice (kind : FileKind) (directories : List (List ℕ)) (d : Disk) (n : ℕ) : Type 0 where
  pub here : FoundFile
  pub there : FoundFile
  pub here_lies : FileLiesIn kind directories d here
  pub there_lies : FileLiesIn kind directories d there
  pub here_number : here.seq ≡ n
  pub there_number : there.seq ≡ n
  pub apart : here ≡ there → ⊥

-- No file of the queue has the number before `first`, or two files have the number `first`.
abbrev pub BeginsBehindGap : LogQueue → List (List ℕ) → Disk → ℕ → Type 0
BeginsBehindGap queue directories d first =
    ((m : ℕ) → suc m ≡ first → IsAbsent (log_format queue directories) m d)
    ⊎ IsTwice (kind_of queue) directories d first

-- The files of a queue that a scan returns begin after a gap, or at a number that two files have. In the second case
-- the scan may have dropped files with lower numbers.
abbrev pub ScannedFilesBegin : Type 0
ScannedFilesBegin = (queue : LogQueue) (directories : List (List ℕ)) (mode : RecoveryMode) (d : Disk)
    (earlier : List Listed) (last : Listed)
    → IsQueueIn (kind_of queue) directories d mode (earlier ++ last ∷ [])
    → BeginsBehindGap queue directories d (first_number earlier last)

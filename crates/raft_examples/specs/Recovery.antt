-- What the example of a scan finds.
use Rattle.std.specs.Prelude.{◌≡◌, ℕ, List, length}
use Rattle.raft_log_fs.specs.Disk.{Disk}
use Rattle.raft_log_file_settings.specs.declared.recovery_mode.RecoveryMode.{RecoveryMode}
use Rattle.raft_log_recovery_scan.specs.Scanned.{Scans}
use Rattle.raft_log_recovery_scan.specs.declared.scanning.ScannedFiles.{ScannedFiles}

-- The directories were scanned. `append` and `rewrite` are how many files each queue has after the last gap in its
-- numbers.
pub record FindsFiles (directories : List (List ℕ)) (mode : RecoveryMode) (append rewrite : ℕ)
    (old new : Disk) : Type 0 where
  pub scanned : ScannedFiles
  pub scans : Scans directories mode scanned old new
  pub of_append : append ≡ length scanned.append.items
  pub of_rewrite : rewrite ≡ length scanned.rewrite.items

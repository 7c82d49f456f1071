-- The builder of a log scans the log's directories, and has the files that it found.
use Rattle.std.specs.Prelude.{◌≡◌, []}
use Rattle.raft_log_record_base.specs.declared.errors.Error.{Error}
use Rattle.raft_log_record_base.specs.declared.errors.Error.TheVariants as errors
use Rattle.raft_log_fs.specs.Disk.{Disk}
use Rattle.raft_log_recovery_scan.specs.Metadata.{ChangesNoFile}
use Rattle.raft_log_recovery_scan.specs.Scanned.{FailsToScan, Scans}
use Rattle.raft_log_recovery_scan.specs.declared.scanning.ScannedFiles.{ScannedFiles}
use Rattle.raft_log_recovery.specs.Directories.{paths_of}
use Rattle.raft_log_recovery.specs.declared.builder.DualPipesBuilder.{DualPipesBuilder}

-- the builder has the files that were found, and none of these files was read yet
pub record HasFound (b : DualPipesBuilder) (found : ScannedFiles) : Type 0 where
  pub append : b.append.files ≡ found.append
  pub rewrite : b.rewrite.files ≡ found.rewrite
  pub reserved : b.reserved ≡ found.reserved
  pub append_unread : b.append.endings.items ≡ []
  pub rewrite_unread : b.rewrite.endings.items ≡ []

-- The log's directories exist now, and the builder `after` has the files that were found in them. After the scan,
-- metadata that the file system keeps for older files may have been deleted, but no file changed.
pub record ScansLog (b after : DualPipesBuilder) (old new : Disk) : Type 0 where
  pub found : ScannedFiles
  pub scanned : Disk
  pub scans : Scans (paths_of b.config) b.config.recovery_mode found old scanned
  pub cleared : ChangesNoFile scanned new
  pub has : HasFound after found
  pub same : after.config ≡ b.config

-- Why a builder's scan fails. No file changed.
-- - `unready`: memory ran out, and nothing was done.
-- - `unscanned`: the scan of the directories failed.
-- - `uncleared`: memory ran out after the scan, while metadata of older files was deleted.
pub data FailsToScanLog (b : DualPipesBuilder) (error : Error) (old new : Disk) : Type 0 where
  unready : error ≡ errors.Memory → new ≡ old → FailsToScanLog b error old new
  unscanned : FailsToScan (paths_of b.config) error old new → FailsToScanLog b error old new
  uncleared : (found : ScannedFiles) (scanned : Disk)
      → Scans (paths_of b.config) b.config.recovery_mode found old scanned
      → error ≡ errors.Memory → ChangesNoFile scanned new → FailsToScanLog b error old new

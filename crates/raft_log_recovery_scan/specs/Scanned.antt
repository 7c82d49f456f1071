-- What a scan of a log's directories returns: of each queue the files that it keeps, already open.
use Rattle.std.specs.Prelude.{◌≡◌, ℕ, ◌⊎◌, List}
use Rattle.std.specs.String.{string_bytes}
use Rattle.raft_log_record_base.specs.declared.errors.Error.{Error}
use Rattle.raft_log_record_base.specs.declared.errors.Error.TheVariants as errors
use Rattle.raft_log_fs.specs.Disk.{Disk}
use Rattle.raft_log_fs.specs.Arguments.{IsAfterStop}
use Rattle.raft_log_fs.specs.declared.handle.Permission.TheVariants.{ReadOnly}
use Rattle.raft_log_file_settings.specs.declared.recovery_mode.RecoveryMode.{RecoveryMode}
use Rattle.raft_log_active_file.specs.declared.format.File.{File}
use Rattle.raft_log_recovery_scan.specs.Names.{IsMisnamed, told_misnamed}
use Rattle.raft_log_recovery_scan.specs.Directories.{HasDirectories, FailsToHaveAll}
use Rattle.raft_log_recovery_scan.specs.Found.{AreAmongAll, AreFilesIn, HasName}
use Rattle.raft_log_recovery_scan.specs.Runs.{IsRunOf}
use Rattle.raft_log_recovery_scan.specs.Opened.{AreOpen, IsOpenQueue}
use Rattle.raft_log_recovery_scan.specs.declared.file_kind.FileKind.{FileKind}
use Rattle.raft_log_recovery_scan.specs.declared.file_kind.FileKind.TheVariants.{Append, Rewrite, Reserved}
use Rattle.raft_log_recovery_scan.specs.declared.scanning.found.FoundFile.{FoundFile}
use Rattle.raft_log_recovery_scan.specs.declared.scanning.ScannedFiles.{ScannedFiles}

-- `kept` are the files of this kind after the last break in the numbers. `listings` has the names in each directory.
pub record IsRunAmong (kind : FileKind) (listings : List (List (List ℕ))) (kept : List FoundFile)
    : Type 0 where
  pub found : List FoundFile
  pub among : AreAmongAll kind 0 listings found
  pub run : IsRunOf found kept

-- `kept` are the files of this kind after the last break in the numbers, among all those in these directories
pub record IsRunIn (kind : FileKind) (directories : List (List ℕ)) (d : Disk) (kept : List FoundFile)
    : Type 0 where
  pub found : List FoundFile
  pub all : AreFilesIn kind directories d found
  pub run : IsRunOf found kept

-- `files` are the files of a queue after the last break in the numbers, open as the recovery mode requires
pub record IsQueueIn (kind : FileKind) (directories : List (List ℕ)) (d : Disk) (mode : RecoveryMode)
    (files : List File) : Type 0 where
  pub kept : List FoundFile
  pub run : IsRunIn kind directories d kept
  pub opened : IsOpenQueue kind directories d mode kept files

-- Among the files with reserved names, which are kept for recycling, `files` are those after the last break in the
-- numbers. They are open for reading.
pub record IsReserveIn (directories : List (List ℕ)) (d : Disk) (files : List File) : Type 0 where
  pub kept : List FoundFile
  pub run : IsRunIn Reserved directories d kept
  pub opened : AreOpen Reserved directories d ReadOnly kept files

-- the scan has the files of both queues, and those kept for recycling
pub record IsScanned (directories : List (List ℕ)) (d : Disk) (mode : RecoveryMode)
    (scanned : ScannedFiles) : Type 0 where
  pub append : IsQueueIn Append directories d mode scanned.append.items
  pub rewrite : IsQueueIn Rewrite directories d mode scanned.rewrite.items
  pub reserved : IsReserveIn directories d scanned.reserved.items

-- `text` is the error message for a file in these directories that is misnamed
abbrev pub TellsMisnamedIn : List (List ℕ) → Disk → List ℕ → Type 0
TellsMisnamedIn directories d text = (kind : FileKind) × (name : List ℕ) × HasName directories d name
    × IsMisnamed kind name × (text ≡ told_misnamed name)

-- Why finding and opening the files fails. `Io`: the file system has stopped. `Corruption`: a file is misnamed.
-- `Memory`: memory ran out.
abbrev pub FailsToFindFiles : List (List ℕ) → Disk → Error → Type 0
FailsToFindFiles directories d (errors.Io kind) = IsAfterStop d kind
FailsToFindFiles directories d (errors.Corruption text) = TellsMisnamedIn directories d (string_bytes text)
FailsToFindFiles directories d errors.Memory = Unit {0}
FailsToFindFiles directories d _ = ⊥

-- The directories are there, and nothing else changed. For each kind, `scanned` has the open files after the last break
-- in the numbers.
pub record Scans (directories : List (List ℕ)) (mode : RecoveryMode) (scanned : ScannedFiles)
    (old new : Disk) : Type 0 where
  pub made : HasDirectories directories old new
  pub is : IsScanned directories new mode scanned

-- Why a scan fails. Either a directory couldn't be made. Or all directories exist, and finding or opening their files
-- failed. No file changed.
abbrev pub FailsToScan : List (List ℕ) → Error → Disk → Disk → Type 0
FailsToScan directories error old new = FailsToHaveAll directories error old new
    ⊎ (HasDirectories directories old new × FailsToFindFiles directories new error)

-- A check of the log in one directory, with default settings.
use Rattle.std.specs.Prelude.{◌≡◌, ℕ, List, ◌++◌, codes}
use Rattle.std.specs.String.{string_bytes}
use Rattle.raft_log_record_base.specs.declared.errors.Error.{Error}
use Rattle.raft_log_record_base.specs.declared.errors.Error.TheVariants as errors
use Rattle.raft_log_fs.specs.Disk.{Disk}
use Rattle.raft_log_file_settings.specs.Settings.{Settings, default_settings, settings_of}
use Rattle.raft_log_file_settings.specs.declared.config.Config.{Config}
use Rattle.raft_log_file_settings.specs.declared.recovery_mode.RecoveryMode.TheVariants.{TolerateAnyCorruption}
use Rattle.raft_log_recovery_scan.specs.Directories.{IsFreePath}
use Rattle.raft_log_offline.specs.Checking.{ChecksLog, FailsToCheck}
use Rattle.raft_log_recovery_scan.specs.Opened.{FailsToLook}

-- the default settings of a log in this directory, but with the recovery mode that tolerates all damage
abbrev pub checked_settings : List ℕ → Settings
checked_settings path = record default_settings { dir = path; recovery_mode = TolerateAnyCorruption }

-- a directory or a file has the path
abbrev pub HasPath : List ℕ → Disk → Type 0
HasPath path d = IsFreePath path d → ⊥

-- the message of the error if no file and no directory has the path
abbrev pub told_absent : List ℕ → List ℕ
told_absent path = codes "No such directory: " ++ path

-- the error if no file and no directory has the path: `InvalidArgument` with the message `told_absent`, or `Memory` if
-- the message could not be allocated
abbrev pub TellsAbsence : List ℕ → Error → Type 0
TellsAbsence path (errors.InvalidArgument text) = string_bytes text ≡ told_absent path
TellsAbsence path errors.Memory = Unit {0}
TellsAbsence path _ = ⊥

-- something has this path, and the log there was checked with the settings `checked_settings path`
pub record ChecksDirectory (path : List ℕ) (findings : List (ℕ × ℕ)) (old new : Disk) : Type 0 where
  pub there : HasPath path old
  pub config : Config
  pub usual : settings_of config ≡ checked_settings path
  pub checks : ChecksLog config findings old new

-- Why a check of the log in the directory `path` fails. Nothing is done if nothing has the path, or if the file system
-- failed to say whether something has it. Otherwise the check itself failed.
pub data FailsToCheckDirectory (path : List ℕ) (error : Error) (old new : Disk) : Type 0 where
  absent : IsFreePath path old → TellsAbsence path error → new ≡ old → FailsToCheckDirectory path error old new
  unknown : FailsToLook old error → new ≡ old → FailsToCheckDirectory path error old new
  unchecked : HasPath path old → (config : Config) → settings_of config ≡ checked_settings path
      → FailsToCheck config error old new → FailsToCheckDirectory path error old new

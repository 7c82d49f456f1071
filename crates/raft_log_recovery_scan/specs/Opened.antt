-- How the files that a scan found are opened.
use Rattle.std.specs.Prelude.{◌≡◌, ℕ, ◌⊎◌, Bool, true, false, List, [], ◌∷◌, ◌++◌, length}
use Rattle.std.specs.List.{AllZip}
use Rattle.raft_log_record_base.specs.declared.errors.Error.{Error}
use Rattle.raft_log_record_base.specs.declared.errors.Error.TheVariants as errors
use Rattle.raft_log_record_base.specs.declared.pipe_log.Version.TheVariants.{V1}
use Rattle.raft_log_fs.specs.Disk.{Disk}
use Rattle.raft_log_fs.specs.Arguments.{IsAfterStop}
use Rattle.raft_log_fs.specs.Reading.{IsOpened}
use Rattle.raft_log_fs.specs.declared.handle.Permission.{Permission}
use Rattle.raft_log_fs.specs.declared.handle.Permission.TheVariants.{ReadOnly, ReadWrite}
use Rattle.raft_log_file_settings.specs.declared.recovery_mode.RecoveryMode.{RecoveryMode}
use Rattle.raft_log_file_settings.specs.declared.recovery_mode.RecoveryMode.TheVariants.{TolerateAnyCorruption}
use Rattle.raft_log_active_file.specs.Layout.{place_of}
use Rattle.raft_log_active_file.specs.declared.format.File.{File}
use Rattle.raft_log_recovery_scan.specs.Found.{found_path}
use Rattle.raft_log_recovery_scan.specs.declared.file_kind.FileKind.{FileKind}
use Rattle.raft_log_recovery_scan.specs.declared.file_kind.FileKind.TheVariants.{Reserved}
use Rattle.raft_log_recovery_scan.specs.declared.scanning.found.FoundFile.{FoundFile}

-- whether files of this kind are reserved: kept for recycling under names of their own
abbrev pub is_reserved : FileKind → Bool
is_reserved Reserved = true
is_reserved _ = false

-- `file` is the file that was found, open with this permission. Its header isn't read yet: its format is still set to
-- version 1 without an alignment.
pub record IsOpenFile (kind : FileKind) (directories : List (List ℕ)) (d : Disk) (permission : Permission)
    (found : FoundFile) (file : File) : Type 0 where
  pub seq : file.seq ≡ found.seq
  pub path_id : file.path_id ≡ place_of (length directories) found.path_id found.signed
  pub reserved : file.reserved ≡ is_reserved kind
  pub format : file.format ≡ record { version = V1; alignment = 0 }
  pub opened : IsOpened (found_path kind directories found) permission file.handle d

-- each file that was found is open, with this permission
abbrev pub AreOpen : FileKind → List (List ℕ) → Disk → Permission → List FoundFile → List File → Type 0
AreOpen kind directories d permission found files =
    AllZip (IsOpenFile kind directories d permission) found files

-- the permission for the files before a queue's last one: to read, and under `TolerateAnyCorruption` to truncate too
abbrev pub permission_before : RecoveryMode → Permission
permission_before TolerateAnyCorruption = ReadWrite
permission_before _ = ReadOnly

-- The files of a queue are open, and there is at least one. The last one is open for writing, and those before it with
-- the permission that the recovery mode requires.
pub record IsOpenBehind (kind : FileKind) (directories : List (List ℕ)) (d : Disk) (mode : RecoveryMode)
    (found : List FoundFile) (files : List File) : Type 0 where
  pub before : List FoundFile
  pub last : FoundFile
  pub found_split : found ≡ before ++ last ∷ []
  pub opened : List File
  pub active : File
  pub split : files ≡ opened ++ active ∷ []
  pub earlier : AreOpen kind directories d (permission_before mode) before opened
  pub writable : IsOpenFile kind directories d ReadWrite last active

-- the files of a queue are open, as the recovery mode requires; or there are none
abbrev pub IsOpenQueue :
    FileKind → List (List ℕ) → Disk → RecoveryMode → List FoundFile → List File → Type 0
IsOpenQueue kind directories d mode found files =
    ((found ≡ []) × (files ≡ [])) ⊎ IsOpenBehind kind directories d mode found files

-- The errors with which looking up a path, or opening the file there, can fail: `Io` after the file system has
-- stopped, or `Memory`.
abbrev pub FailsToLook : Disk → Error → Type 0
FailsToLook d (errors.Io kind) = IsAfterStop d kind
FailsToLook d errors.Memory = Unit {0}
FailsToLook d _ = ⊥

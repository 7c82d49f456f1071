-- A fork copies the files of a log to another directory. No engine has the log open.
use Rattle.std.specs.Prelude.{◌≡◌, ℕ, ◌⊎◌, true, false, None, List, [], ◌∷◌, ◌++◌, codes, map, Contains}
use Rattle.std.specs.String.{string_bytes}
use Rattle.raft_log_record_base.specs.declared.errors.Error.{Error}
use Rattle.raft_log_record_base.specs.declared.errors.Error.TheVariants as errors
use Rattle.raft_log_fs.specs.Disk.{Disk, IsPlain}
use Rattle.raft_log_fs.specs.Arguments.{IsAfterStop}
use Rattle.raft_log_fs.specs.Exits.{FailsToMakeDirectory}
use Rattle.raft_log_recovery_scan.specs.Directories.{FailsToListAll}
use Rattle.raft_log_recovery_scan.specs.Scanned.{TellsMisnamedIn}
use Rattle.raft_log_file_settings.specs.Sanitized.{IsFileName, IsRefusedFor, HasNoFault}
use Rattle.raft_log_file_settings.specs.Settings.{Settings, directories_of}
use Rattle.raft_log_file_settings.specs.declared.recovery_mode.RecoveryMode.TheVariants.{TolerateAnyCorruption}
use Rattle.raft_log_offline.specs.Copies.{AddsOnly, HasCopy, IsCopyRefusal, copy_path}
use Rattle.raft_log_offline.specs.Sources.{AreSources}
use Rattle.raft_log_offline.specs.Steps.{TellsUncopied}
use Rattle.raft_log_offline.specs.declared.source_file.SourceFile.{SourceFile}

-- Which logs are copied, and where.

-- the path is that of the directory, or of something in it at any depth
abbrev pub LiesWithin : List ℕ → List ℕ → Type 0
LiesWithin directory path = (path ≡ directory) ⊎ ((rest : List ℕ) × (path ≡ directory ++ 47 ∷ rest))

-- `path` is that of one of these directories, or of something in one of them at any depth
abbrev pub LiesInOne : List (List ℕ) → List ℕ → Type 0
LiesInOne directories path = (directory : List ℕ) × Contains directories directory × LiesWithin directory path

-- the directory exists and has a file with the name of a log file, or of a file that is kept for recycling
pub record HoldsLogFile (directory : List ℕ) (d : Disk) : Type 0 where
  pub home : d.directories directory ≡ true
  pub name : List ℕ
  pub is : IsFileName name
  pub plain : IsPlain name
  pub there : d.names (directory ++ 47 ∷ name) ≡ None → ⊥

-- the settings allow a fork: recycling is off, and the recovery mode doesn't tolerate all damage
pub record MayBeCopied (s : Settings) : Type 0 where
  pub recycle : s.enable_log_recycle ≡ false
  pub mode : s.recovery_mode ≡ TolerateAnyCorruption → ⊥

-- Why a fork to `target` is not allowed, and the message of its error. If there are several reasons, the first one of
-- this list counts.
pub data Forbids (s : Settings) (target : List ℕ) (d : Disk) (text : List ℕ) : Type 0 where
  recycles : s.enable_log_recycle ≡ true → text ≡ codes "enable_log_recycle should be false"
      → Forbids s target d text
  tolerates : s.enable_log_recycle ≡ false → s.recovery_mode ≡ TolerateAnyCorruption
      → text ≡ codes "recovery_mode shouldn't be TolerateAnyCorruption" → Forbids s target d text
  inside : MayBeCopied s → LiesInOne (directories_of s) target
      → text ≡ codes "the target is inside the log's own directory" → Forbids s target d text
  holds : MayBeCopied s → (LiesInOne (directories_of s) target → ⊥) → HoldsLogFile target d
      → text ≡ codes "the target holds log files" → Forbids s target d text

-- no reason that `Forbids` lists applies to a fork to `target`
pub record IsFree (s : Settings) (target : List ℕ) (d : Disk) : Type 0 where
  pub settings : MayBeCopied s
  pub outside : LiesInOne (directories_of s) target → ⊥
  pub empty : HoldsLogFile target d → ⊥

-- no reason that `Forbids` lists applies to a fork to `target`, and the settings have no fault
abbrev pub AllowsFork : Settings → List ℕ → Disk → Type 0
AllowsFork s target d = IsFree s target d × HasNoFault s

-- What is copied.

-- the path is that of the copy of one of these files
abbrev pub IsCopyPath : List ℕ → List SourceFile → List ℕ → Type 0
IsCopyPath target files path = (file : SourceFile) × Contains files file × (path ≡ copy_path target file)

-- each of these files has its copy in `target`
abbrev pub HaveCopies : List ℕ → List SourceFile → Disk → Disk → Type 0
HaveCopies target files old new =
    (file : SourceFile) → Contains files file → HasCopy file.handle.file (copy_path target file) old new

-- each of these files has its copy in `target`, and nothing else changed
pub record CopiesAll (target : List ℕ) (files : List SourceFile) (old new : Disk) : Type 0 where
  pub adds : AddsOnly target (IsCopyPath target files) old new
  pub copies : HaveCopies target files old new

-- Copying the files failed at `file`. The files before it, `copied`, have their copies. `file` may have an incomplete
-- copy, and nothing else changed. The error is that of a call for `file`, or `Memory`.
pub record FailsToCopyAll (target : List ℕ) (files : List SourceFile) (error : Error) (old new : Disk)
    : Type 0 where
  pub copied : List SourceFile
  pub file : SourceFile
  pub behind : List SourceFile
  pub split : files ≡ copied ++ file ∷ behind
  pub adds : AddsOnly target (IsCopyPath target (copied ++ file ∷ [])) old new
  pub copies : HaveCopies target copied old new
  pub refusal : IsCopyRefusal target files error old new
  pub between : Disk
  pub first : CopiesAll target copied old between
  pub told : TellsUncopied target file error between new

-- The whole.

-- A fork succeeded. The directory `target` exists. For each number in each queue it has a copy of one of the log's
-- files with that number. Nothing else changed. `copied` has the paths of the copies, in the order of the files.
pub record Forks (s : Settings) (target : List ℕ) (copied : List (List ℕ)) (old new : Disk) : Type 0 where
  pub allowed : AllowsFork s target old
  pub files : List SourceFile
  pub sources : AreSources (directories_of s) old files
  pub home : new.directories target ≡ true
  pub copies : CopiesAll target files old new
  pub paths : copied ≡ map (copy_path target) files

-- Why a fork is rejected before anything is done:
-- - `InvalidArgument`: something forbids it
-- - `Other`: the settings have a fault
-- - `Io`: the file system has stopped, or listing a directory of the log fails
-- - `Corruption`: a file in a directory of the log is misnamed
-- - `Memory`: memory ran out
abbrev pub IsForkRefusal : Settings → List ℕ → Disk → Error → Type 0
IsForkRefusal s target d (errors.InvalidArgument text) = Forbids s target d (string_bytes text)
IsForkRefusal s target d (errors.Other why) = IsFree s target d × IsRefusedFor s (errors.Other why)
IsForkRefusal s target d (errors.Io kind) =
    IsAfterStop d kind ⊎ (AllowsFork s target d × FailsToListAll (directories_of s) d (errors.Io kind))
IsForkRefusal s target d (errors.Corruption text) =
    AllowsFork s target d × TellsMisnamedIn (directories_of s) d (string_bytes text)
IsForkRefusal s target d errors.Memory = Unit {0}
IsForkRefusal s target d _ = ⊥

-- Why making the directory `target` fails. `Io`: the file system failed to make it. `Memory`: memory ran out, and
-- nothing changed.
abbrev pub FailsToMakeTarget : List ℕ → Error → Disk → Disk → Type 0
FailsToMakeTarget target (errors.Io kind) old new = FailsToMakeDirectory target kind old new
FailsToMakeTarget target errors.Memory old new = new ≡ old
FailsToMakeTarget target _ old new = ⊥

-- Why a fork fails, and the disk after it:
-- - `refused`: it was rejected, and nothing changed.
-- - `homeless`: making the target directory failed.
-- - `cut_short`: copying the files failed.
pub data FailsToFork (s : Settings) (target : List ℕ) (error : Error) (old new : Disk) : Type 0 where
  refused : IsForkRefusal s target old error → new ≡ old → FailsToFork s target error old new
  homeless : AllowsFork s target old → FailsToMakeTarget target error old new
      → FailsToFork s target error old new
  cut_short : AllowsFork s target old → (files : List SourceFile)
      → AreSources (directories_of s) old files → FailsToCopyAll target files error old new
      → FailsToFork s target error old new

-- A file is copied, and no file that was there changes.
use Rattle.std.specs.Prelude.{◌≡◌, ℕ, ◌<◌, ◌^◌, ◌⊎◌, Some, true, List, ◌∷◌, ◌++◌, Contains}
use Rattle.std.specs.declared.io.ErrorKind.TheVariants.{AlreadyExists}
use Rattle.raft_log_record_base.specs.declared.errors.Error.{Error}
use Rattle.raft_log_record_base.specs.declared.errors.Error.TheVariants as errors
use Rattle.raft_log_fs.specs.Disk.{File, Disk, at_rest}
use Rattle.raft_log_fs.specs.Arguments.{IsTaken}
use Rattle.raft_log_fs.specs.Causes.{Fails, IsLater}
use Rattle.raft_log_recovery_scan.specs.Names.{built_name}
use Rattle.raft_log_offline.specs.declared.source_file.SourceFile.{SourceFile}

-- From disk `old` to disk `new`, no name, directory or file that was there changed. Only `target` may be a new
-- directory. Only paths for which `own` holds may name new files.
pub record AddsOnly (target : List ℕ) (own : List ℕ → Type 0) (old new : Disk) : Type 0 where
  pub directories : (path : List ℕ) → (path ≡ target → ⊥) → new.directories path ≡ old.directories path
  pub there : (path : List ℕ) → old.directories path ≡ true → new.directories path ≡ true
  pub names : (path : List ℕ) → (own path → ⊥) → new.names path ≡ old.names path
  pub named : (path : List ℕ) (id : ℕ) → old.names path ≡ Some id → new.names path ≡ Some id
  pub files : (id : ℕ) (file : File) → old.files id ≡ Some file → new.files id ≡ Some file
  pub unreadable : new.unreadable ≡ old.unreadable
  pub later : IsLater old new

-- the path `to` names a file on `new` with the bytes that the file `source` had on `old`, all of them synced
pub record HasCopy (source : ℕ) (to : List ℕ) (old new : Disk) : Type 0 where
  pub file : File
  pub is : old.files source ≡ Some file
  pub copy : ℕ
  pub named : new.names to ≡ Some copy
  pub stands : new.files copy ≡ Some (at_rest file.content)

-- the path of the copy of a file in the directory `target`
abbrev pub copy_path : List ℕ → SourceFile → List ℕ
copy_path target file = target ++ 47 ∷ built_name file.kind file.seq

-- the file is on the disk, and its number is small enough for a name
pub record IsSourceThere (d : Disk) (file : SourceFile) : Type 0 where
  pub content : File
  pub is : d.files file.handle.file ≡ Some content
  pub small : file.seq < 10 ^ 16

-- one of these files has an unreadable byte
abbrev pub HasUnreadable : List SourceFile → Disk → Type 0
HasUnreadable files d = (file : SourceFile) × Contains files file
    × ((place : ℕ) × (d.unreadable file.handle.file place ≡ true))

-- a file or directory already has the path of one of the copies
abbrev pub IsInTheWay : List ℕ → List SourceFile → Disk → Type 0
IsInTheWay target files d =
    (file : SourceFile) × Contains files file × IsTaken (copy_path target file) d

-- Why copying one of the files fails. `Io`: a file system call failed, a byte can't be read, or something already has
-- the path of a copy. `Memory`: memory ran out.
abbrev pub IsCopyRefusal : List ℕ → List SourceFile → Error → Disk → Disk → Type 0
IsCopyRefusal target files (errors.Io kind) old new =
    Fails old new ⊎ (HasUnreadable files old ⊎ ((kind ≡ AlreadyExists) × IsInTheWay target files old))
IsCopyRefusal target files errors.Memory old new = Unit {0}
IsCopyRefusal target files _ old new = ⊥

-- One file is copied: it is read whole, and a new file with its bytes is made.
use Rattle.std.specs.Prelude.{◌≡◌, ℕ, ◌⊎◌, Some, List, [], ◌∷◌}
use Rattle.std.specs.declared.io.ErrorKind.{ErrorKind}
use Rattle.raft_log_record_base.specs.declared.errors.Error.{Error}
use Rattle.raft_log_record_base.specs.declared.errors.Error.TheVariants as errors
use Rattle.raft_log_fs.specs.Disk.{File, Disk, Wrote, at_rest}
use Rattle.raft_log_fs.specs.Arguments.{WrongCreate}
use Rattle.raft_log_fs.specs.Calls.{Changes, Creates, after_change}
use Rattle.raft_log_fs.specs.Causes.{Fails}
use Rattle.raft_log_fs.specs.Exits.{FailsToCreate, FailsToSync, FailsToWrite}
use Rattle.raft_log_fs.specs.Reading.{IsNotMeasured, IsUnread}
use Rattle.raft_log_fs.specs.declared.handle.Handle.{Handle}
use Rattle.raft_log_offline.specs.Copies.{AddsOnly, HasCopy, IsCopyRefusal, copy_path}
use Rattle.raft_log_offline.specs.declared.source_file.SourceFile.{SourceFile}

-- `bytes` are all bytes of the file `id`
pub record AreAllBytes (id : ℕ) (bytes : List ℕ) (d : Disk) : Type 0 where
  pub file : File
  pub is : d.files id ≡ Some file
  pub all : bytes ≡ file.content

-- Why reading the whole file fails. `Io`: its size or some byte can't be read. `Memory`: memory ran out.
abbrev pub FailsToReadWhole : Handle → Disk → Error → Type 0
FailsToReadWhole handle d (errors.Io kind) =
    IsNotMeasured handle d kind ⊎ ((count : ℕ) × IsUnread handle 0 count d kind)
FailsToReadWhole handle d errors.Memory = Unit {0}
FailsToReadWhole handle d _ = ⊥

-- `bytes` were written to the file `id` at offset 0; or there are none, and nothing was done
abbrev pub Fills : ℕ → List ℕ → Disk → Disk → Type 0
Fills id bytes old new =
    ((bytes ≡ []) × (new ≡ old)) ⊎ Changes id (after_change (Wrote 0 bytes)) old new

-- the path names a file with these bytes, all of them synced, and nothing else changed
pub record MakesFile (path bytes : List ℕ) (old new : Disk) : Type 0 where
  pub adds : (target : List ℕ) → AddsOnly target (λ other. other ≡ path) old new
  pub copy : ℕ
  pub named : new.names path ≡ Some copy
  pub stands : new.files copy ≡ Some (at_rest bytes)

-- Why making a file fails: a file system call failed, or the path can't be that of a new file. The file may be
-- incomplete, and nothing else changed.
abbrev pub FailsToMake : List ℕ → Error → Disk → Disk → Type 0
FailsToMake path (errors.Io kind) old new =
    ((target : List ℕ) → AddsOnly target (λ other. other ≡ path) old new)
    × (Fails old new ⊎ WrongCreate path old kind)
FailsToMake path _ old new = ⊥

-- which call failed when a file was made: its creation, the write of its bytes, or the sync after it
pub data UnmadeBy (path bytes : List ℕ) (kind : ErrorKind) (old new : Disk) : Type 0 where
  not_created : FailsToCreate path kind old new → UnmadeBy path bytes kind old new
  not_filled : (handle : Handle) (made : Disk) → Creates path handle.file old made
      → FailsToWrite handle 0 bytes kind made new → UnmadeBy path bytes kind old new
  not_synced : (handle : Handle) (made full : Disk) → Creates path handle.file old made
      → Fills handle.file bytes made full → FailsToSync handle kind full new → UnmadeBy path bytes kind old new

-- the error is `Io`, with the kind of the call that failed
abbrev pub TellsUnmade : List ℕ → List ℕ → Error → Disk → Disk → Type 0
TellsUnmade path bytes (errors.Io kind) old new = UnmadeBy path bytes kind old new
TellsUnmade path bytes _ old new = ⊥

-- the file has a copy in `target`, and nothing else changed
pub record CopiesOne (target : List ℕ) (file : SourceFile) (old new : Disk) : Type 0 where
  pub adds : AddsOnly target (λ other. other ≡ copy_path target file) old new
  pub copy : HasCopy file.handle.file (copy_path target file) old new

-- why copying a file fails; its copy may be incomplete, and nothing else changed
abbrev pub FailsToCopyOne : List ℕ → SourceFile → Error → Disk → Disk → Type 0
FailsToCopyOne target file error old new =
    AddsOnly target (λ other. other ≡ copy_path target file) old new
    × IsCopyRefusal target (file ∷ []) error old new

-- Which call failed when a file was copied: one that reads it, or one that makes its copy. The error may also be
-- `Memory`.
abbrev pub TellsUncopied : List ℕ → SourceFile → Error → Disk → Disk → Type 0
TellsUncopied target file (errors.Io kind) old new =
    (FailsToReadWhole file.handle old (errors.Io kind) × (new ≡ old))
    ⊎ ((bytes : List ℕ) × AreAllBytes file.handle.file bytes old
    × UnmadeBy (copy_path target file) bytes kind old new)
TellsUncopied target file errors.Memory old new = Unit {0}
TellsUncopied target file _ old new = ⊥

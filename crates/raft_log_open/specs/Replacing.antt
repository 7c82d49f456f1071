-- A file is replaced: the new bytes are written to a temporary file, which is then renamed over the file.
use Rattle.std.specs.Prelude.{◌≡◌, ℕ, ◌⊎◌, Some, None, List}
use Rattle.std.specs.declared.io.ErrorKind.{ErrorKind}
use Rattle.raft_log_fs.specs.Disk.{Disk, at_rest}
use Rattle.raft_log_fs.specs.Calls.{Creates}
use Rattle.raft_log_fs.specs.Exits.{FailsToCreate, FailsToRename, FailsToSync, FailsToWrite, Writes}
use Rattle.raft_log_fs.specs.Touching.{HasNamed, TouchesOnlyNames}
use Rattle.raft_log_fs.specs.declared.handle.Handle.{Handle}

-- the path names a file with these bytes, all of them synced
abbrev pub IsAtRest : List ℕ → List ℕ → Disk → Type 0
IsAtRest path bytes d = HasNamed path (λ file. file ≡ at_rest bytes) d

-- the path names the same file as before, unchanged; or it named none, and still names none
pub record StaysAt (path : List ℕ) (old new : Disk) : Type 0 where
  pub named : new.names path ≡ old.names path
  pub file : (id : ℕ) → old.names path ≡ Some id → new.files id ≡ old.files id

-- the path names a file with these bytes, all of them synced, and nothing else changed
pub record MakesFile (path bytes : List ℕ) (old new : Disk) : Type 0 where
  pub made : IsAtRest path bytes new
  pub others : TouchesOnlyNames (λ other. other ≡ path) old new

-- which call failed while a file was made: its creation, the write of its bytes, or the sync after the write
pub data UnmadeBy (path bytes : List ℕ) (kind : ErrorKind) (old new : Disk) : Type 0 where
  not_created : FailsToCreate path kind old new → UnmadeBy path bytes kind old new
  not_written : (handle : Handle) (begun : Disk) → Creates path handle.file old begun
      → FailsToWrite handle 0 bytes kind begun new → UnmadeBy path bytes kind old new
  not_synced : (handle : Handle) (begun full : Disk) → Creates path handle.file old begun
      → Writes handle 0 bytes begun full → FailsToSync handle kind full new → UnmadeBy path bytes kind old new

-- making a file failed at one of its calls; the file may be incomplete, and nothing else changed
pub record FailsToMake (path bytes : List ℕ) (kind : ErrorKind) (old new : Disk) : Type 0 where
  pub others : TouchesOnlyNames (λ other. other ≡ path) old new
  pub told : UnmadeBy path bytes kind old new

-- the path is one of these two
abbrev pub IsEither : List ℕ → List ℕ → List ℕ → Type 0
IsEither a b path = (path ≡ a) ⊎ (path ≡ b)

-- `path` names a file with these bytes, all of them synced. The temporary path is free, and nothing else changed.
pub record Replaces (temporary path bytes : List ℕ) (old new : Disk) : Type 0 where
  pub anew : IsAtRest path bytes new
  pub free : new.names temporary ≡ None
  pub others : TouchesOnlyNames (IsEither temporary path) old new

-- which call failed while a file was replaced: one that makes the temporary file, or the rename
pub data UnreplacedBy (temporary path bytes : List ℕ) (kind : ErrorKind) (old new : Disk) : Type 0 where
  unmade : UnmadeBy temporary bytes kind old new → UnreplacedBy temporary path bytes kind old new
  unnamed : (made : Disk) → MakesFile temporary bytes old made → FailsToRename temporary path kind made new
      → UnreplacedBy temporary path bytes kind old new

-- Why replacing a file fails, and what is left. `path` names the same file as before, unchanged, or none as before. Or
-- it names the whole new file. Apart from `path` and the temporary path, no name changed, and no file with another
-- name.
pub record FailsToReplace (temporary path bytes : List ℕ) (kind : ErrorKind) (old new : Disk) : Type 0 where
  pub whole : StaysAt path old new ⊎ IsAtRest path bytes new
  pub others : TouchesOnlyNames (IsEither temporary path) old new
  pub told : UnreplacedBy temporary path bytes kind old new

-- Making the directories of a log, and listing the files in them.
use Rattle.std.specs.Prelude.{◌≡◌, ℕ, ◌⊎◌, Bool, Some, None, true, false, List, ◌∷◌, ◌++◌, codes, Contains}
use Rattle.std.specs.declared.io.ErrorKind.{ErrorKind}
use Rattle.std.specs.declared.io.ErrorKind.TheVariants.{OutOfMemory}
use Rattle.anyhow.specs.Error.{HasMessage}
use Rattle.raft_log_record_base.specs.declared.errors.Error.{Error}
use Rattle.raft_log_record_base.specs.declared.errors.Error.TheVariants as errors
use Rattle.raft_log_fs.specs.Disk.{Disk}
use Rattle.raft_log_fs.specs.Arguments.{WrongListing, IsAfterStop}
use Rattle.raft_log_fs.specs.Calls.{MakesDirectory}
use Rattle.raft_log_fs.specs.Exits.{FailsToMakeDirectory}

-- Making them.

-- no file and no directory has the path
abbrev pub IsFreePath : List ℕ → Disk → Type 0
IsFreePath path d = (d.names path ≡ None) × (d.directories path ≡ false)

-- the directory was there, and nothing changed; or it was made
abbrev pub MakesIfAbsent : List ℕ → Disk → Disk → Type 0
MakesIfAbsent path old new = ((old.directories path ≡ true) × (new ≡ old)) ⊎ MakesDirectory path old new

-- the message of the error if the path is that of a file
abbrev pub told_no_directory : List ℕ → List ℕ
told_no_directory path = codes "Not directory: " ++ path

-- The error if the path is that of a file: `Other`, with a message that has the path, or `Memory` if the message could
-- not be allocated.
abbrev pub TellsNoDirectory : List ℕ → Error → Type 0
TellsNoDirectory path (errors.Other why) = HasMessage (Some (told_no_directory path)) why.value
TellsNoDirectory path errors.Memory = Unit {0}
TellsNoDirectory path _ = ⊥

-- Why making sure that a directory exists fails, and the disk after it:
-- - `Other`: a file has the path, which is in the message; nothing changed
-- - `Io`: the file system failed to make it, or had stopped
-- - `Memory`: memory ran out; nothing changed
abbrev pub FailsToHave : List ℕ → Error → Disk → Disk → Type 0
FailsToHave path (errors.Other why) old new = (old.stopped ≡ false) × (old.names path ≡ None → ⊥)
    × HasMessage (Some (told_no_directory path)) why.value × (new ≡ old)
FailsToHave path (errors.Io kind) old new =
    ((old.stopped ≡ true) ⊎ IsFreePath path old) × FailsToMakeDirectory path kind old new
FailsToHave path errors.Memory old new = (old.stopped ≡ false) × (new ≡ old)
FailsToHave path _ old new = ⊥

-- all these directories are there, other directories are as before, and nothing else changed
pub record HasDirectories (directories : List (List ℕ)) (old new : Disk) : Type 0 where
  pub there : (path : List ℕ) → Contains directories path → new.directories path ≡ true
  pub others : (path : List ℕ) → (Contains directories path → ⊥) → new.directories path ≡ old.directories path
  pub rest : new ≡ record old { directories = new.directories }

-- all directories before `path` in the list are there, and making `path` failed
pub record FailsToHaveAll (directories : List (List ℕ)) (error : Error) (old new : Disk) : Type 0 where
  pub before : List (List ℕ)
  pub path : List ℕ
  pub behind : List (List ℕ)
  pub split : directories ≡ before ++ path ∷ behind
  pub between : Disk
  pub has : HasDirectories before old between
  pub fails : FailsToHave path error between new

-- Listing their files.

-- The log's error after a call of the file system that changes nothing failed, with the error kind `kind`. `stopped`
-- says whether the file system had stopped.
-- - If it had, the error is `Io` with this kind.
-- - If it runs, the error is `Memory`. If `kind` isn't `OutOfMemory`, the error may be `Io` with this kind instead.
abbrev pub TellsRefusal : Bool → ErrorKind → Error → Type 0
TellsRefusal stopped kind (errors.Io told) = (told ≡ kind) × ((stopped ≡ true) ⊎ (kind ≡ OutOfMemory → ⊥))
TellsRefusal stopped kind errors.Memory = stopped ≡ false
TellsRefusal stopped kind _ = ⊥

-- Why listing a directory fails. `Io`: the file system has stopped, or there is no such directory. `Memory`: memory
-- ran out.
abbrev pub FailsToList : List ℕ → Disk → Error → Type 0
FailsToList path d (errors.Io kind) = IsAfterStop d kind ⊎ ((d.stopped ≡ false) × WrongListing path d kind)
FailsToList path d errors.Memory = d.stopped ≡ false
FailsToList path d _ = ⊥

-- listing one of these directories fails with `error`
abbrev pub FailsToListAll : List (List ℕ) → Disk → Error → Type 0
FailsToListAll directories d error = (path : List ℕ) × Contains directories path × FailsToList path d error

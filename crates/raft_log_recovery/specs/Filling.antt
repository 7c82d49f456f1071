-- A file is filled piece by piece: the same bytes are written again and again. An open fills files with zeros.
use Rattle.std.specs.Prelude.{◌≡◌, ◌<◌, ◌*◌, ◌↔◌, ◌⊎◌, ℕ, zero, suc, Bool, IsTrue, false, List, length}
use Rattle.std.specs.Int.{div_ceil}
use Rattle.std.specs.declared.io.ErrorKind.{ErrorKind}
use Rattle.std.specs.declared.io.ErrorKind.TheVariants.{StorageFull}
use Rattle.raft_log_fs.specs.Disk.{Disk}
use Rattle.raft_log_fs.specs.Exits.{FailsToWrite, Writes}
use Rattle.raft_log_fs.specs.declared.handle.Handle.{Handle}

-- `bytes` was written `count` times (`count` is the third argument). The first time it was written at the file's start,
-- and each further time right after the one before.
abbrev pub WritesPieces : Handle → List ℕ → ℕ → Disk → Disk → Type 0
WritesPieces handle bytes zero old new = new ≡ old
WritesPieces handle bytes (suc count) old new = (mid : Disk) × WritesPieces handle bytes count old mid
    × Writes handle (count * length bytes) bytes mid new

-- `bytes` was written again and again from the file's start on, until `size` bytes or more were written
abbrev pub FillsFile : Handle → List ℕ → ℕ → Disk → Disk → Type 0
FillsFile handle bytes size old new = WritesPieces handle bytes (div_ceil size (length bytes)) old new

-- one of the writes that fill a file failed; the `count` writes before it succeeded
pub record FailsToFill (handle : Handle) (bytes : List ℕ) (size : ℕ) (kind : ErrorKind) (old new : Disk)
    : Type 0 where
  pub count : ℕ
  pub short : count < div_ceil size (length bytes)
  pub between : Disk
  pub written : WritesPieces handle bytes count old between
  pub fails : FailsToWrite handle (count * length bytes) bytes kind between new

-- the error kind is `StorageFull`
abbrev pub HasNoSpace : ErrorKind → Type 0
HasNoSpace StorageFull = Unit {0}
HasNoSpace _ = ⊥

-- either the file was filled, or a write failed; `full` says whether a write failed for lack of space
abbrev pub FillsOrNot : Handle → List ℕ → ℕ → Bool → Disk → Disk → Type 0
FillsOrNot handle bytes size full old new = (FillsFile handle bytes size old new × (full ≡ false))
    ⊎ ((kind : ErrorKind) × FailsToFill handle bytes size kind old new × (IsTrue full ↔ HasNoSpace kind))

-- Damaged files are truncated after the last good record that was read of them.
use Rattle.std.specs.Prelude.{◌≡◌, ℕ, Bool, true, false, List, [], ◌∷◌, take, slice_index_or, unwrap_or}
use Rattle.std.specs.declared.io.ErrorKind.{ErrorKind}
use Rattle.raft_log_fs.specs.Disk.{Disk}
use Rattle.raft_log_active_file.specs.TakingUp.{TrimMakes, Trims}
use Rattle.raft_log_active_file.specs.declared.format.File.{File}
use Rattle.raft_log_recovery_read.specs.declared.file_ending.FileEnding.{FileEnding}

-- If the flag is true, the file was truncated and synced. It now ends after its last good record, or after its header
-- if it has no good record. If it had no header or a torn one, it is empty. If the flag is false, nothing changed.
abbrev pub CutsIf : Bool → File → FileEnding → Disk → Disk → Type 0
CutsIf true file ending old new = Trims file.handle (unwrap_or ending.end 0) old new
CutsIf false file ending old new = new ≡ old

-- `ending` is the result of reading the file. If it says that the file is damaged, the file was truncated and synced
-- (`CutsIf`).
abbrev pub CutsOne : File → FileEnding → Disk → Disk → Type 0
CutsOne file ending old new = CutsIf ending.is_damaged file ending old new

-- the file is damaged, and its truncation or the sync after that failed
pub record FailsToCutOne (file : File) (ending : FileEnding) (kind : ErrorKind) (old new : Disk)
    : Type 0 where
  pub damaged : ending.is_damaged ≡ true
  pub makes : TrimMakes file.handle (unwrap_or ending.end 0) kind old new

-- Each damaged file was truncated and synced (`CutsIf`), in order. `endings` has the result of reading each file, which
-- says whether the file is damaged.
abbrev pub CutsEach : List File → List FileEnding → Disk → Disk → Type 0
CutsEach [] endings old new = new ≡ old
CutsEach (file ∷ files) [] old new = new ≡ old
CutsEach (file ∷ files) (ending ∷ endings) old new =
    (mid : Disk) × CutsOne file ending old mid × CutsEach files endings mid new

-- Truncating or syncing the damaged file at position `at` failed. The damaged files before it were truncated and
-- synced.
pub record FailsToCutEach (files : List File) (endings : List FileEnding) (kind : ErrorKind)
    (old new : Disk) : Type 0 where
  pub at : ℕ
  pub file : File
  pub ending : FileEnding
  pub file_is : (other : File) → slice_index_or files at other ≡ file
  pub ending_is : (other : FileEnding) → slice_index_or endings at other ≡ ending
  pub between : Disk
  pub cuts : CutsEach (take at files) (take at endings) old between
  pub fails : FailsToCutOne file ending kind between new

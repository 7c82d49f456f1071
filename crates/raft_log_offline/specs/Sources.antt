-- The files that a fork copies: those of both queues, but only one file for each number of a queue.
use Rattle.std.specs.Prelude.{◌≡◌, ℕ, ◌+◌, ◌<◌, ◌^◌, ◌⊎◌, true, Some, List, [], ◌∷◌, ◌++◌, Contains, length, slice_index_or, nat_eq, if◌then◌else◌}
use Rattle.std.specs.List.{AllZip}
use Rattle.raft_log_record_base.specs.declared.errors.Error.{Error}
use Rattle.raft_log_fs.specs.Disk.{Disk}
use Rattle.raft_log_active_file.specs.declared.format.File.{File}
use Rattle.raft_log_recovery_scan.specs.Directories.{FailsToListAll}
use Rattle.raft_log_recovery_scan.specs.Names.{built_name}
use Rattle.raft_log_recovery_scan.specs.Scanned.{FailsToFindFiles}
use Rattle.raft_log_recovery_scan.specs.Found.{AreFilesIn, found_path}
use Rattle.raft_log_recovery_scan.specs.declared.file_kind.FileKind.{FileKind}
use Rattle.raft_log_recovery_scan.specs.declared.file_kind.FileKind.TheVariants.{Append, Rewrite}
use Rattle.raft_log_recovery_scan.specs.declared.scanning.found.FoundFile.{FoundFile}
use Rattle.raft_log_offline.specs.Copies.{IsSourceThere}
use Rattle.raft_log_offline.specs.declared.source_file.SourceFile.{SourceFile}

-- `a` is in an earlier directory than `b`. Or they are in the same one, and if the name of `a` has a plus sign, so has
-- that of `b`.
abbrev pub IsNoLater : FoundFile → FoundFile → Type 0
IsNoLater a b = (a.path_id < b.path_id)
    ⊎ ((a.path_id ≡ b.path_id) × (a.signed ≡ true → b.signed ≡ true))

-- Among the files in `found` with its number, `file` is the one that counts: the one in the last directory. If two
-- files in that directory have this number, it is the one whose name has a plus sign.
pub record IsLastOf (found : List FoundFile) (file : FoundFile) : Type 0 where
  pub there : Contains found file
  pub last : (other : FoundFile) → Contains found other → other.seq ≡ file.seq → IsNoLater other file

-- the numbers of these files rise
abbrev pub AreRising : List FoundFile → Type 0
AreRising [] = Unit {0}
AreRising (file ∷ files) =
    ((other : FoundFile) → Contains files other → file.seq < other.seq) × AreRising files

-- `chosen` has one file for each number in `found`: the one that counts (`IsLastOf`). It is sorted by number.
pub record IsOneEach (found chosen : List FoundFile) : Type 0 where
  pub are : (file : FoundFile) → Contains chosen file → IsLastOf found file
  pub all : (file : FoundFile) → IsLastOf found file → Contains chosen file
  pub rising : AreRising chosen

-- the file at position `at` is the last one, or the next one has another number
abbrev pub IsNextAnother : List FoundFile → ℕ → Type 0
IsNextAnother files at = (at + 1 ≡ length files)
    ⊎ ((d : FoundFile) → (slice_index_or files at d).seq ≡ (slice_index_or files (at + 1) d).seq → ⊥)

-- the list with just this file, or empty if the first of `files` has the same number
abbrev pub unless_again : FoundFile → List FoundFile → List FoundFile
unless_again file [] = file ∷ []
unless_again file (next ∷ files) = if nat_eq file.seq next.seq then [] else file ∷ []

-- the last file of each number, among files sorted by number
abbrev pub lasts : List FoundFile → List FoundFile
lasts [] = []
lasts (file ∷ files) = unless_again file files ++ lasts files

-- `file` is the file `found`, of this kind, opened to be copied
pub record IsSource (kind : FileKind) (directories : List (List ℕ)) (d : Disk) (found : FoundFile)
    (file : SourceFile) : Type 0 where
  pub queue : file.kind ≡ kind
  pub seq : file.seq ≡ found.seq
  pub small : found.seq < 10 ^ 16
  pub is : d.names (found_path kind directories found) ≡ Some file.handle.file

-- `files` are the files of this kind in these directories, one for each number, opened to be copied
pub record AreSourcesOf (kind : FileKind) (directories : List (List ℕ)) (d : Disk) (files : List SourceFile)
    : Type 0 where
  pub found : List FoundFile
  pub all : AreFilesIn kind directories d found
  pub chosen : List FoundFile
  pub each : IsOneEach found chosen
  pub opened : AllZip (IsSource kind directories d) chosen files

-- the files of the log that are copied, those of Rewrite first
pub record AreSources (directories : List (List ℕ)) (d : Disk) (files : List SourceFile) : Type 0 where
  pub rewrite : List SourceFile
  pub append : List SourceFile
  pub of_rewrite : AreSourcesOf Rewrite directories d rewrite
  pub of_append : AreSourcesOf Append directories d append
  pub both : files ≡ rewrite ++ append

-- an open file, as one that is to be copied
abbrev pub source_of : FileKind → File → SourceFile
source_of kind file = record { kind = kind; seq = file.seq; handle = file.handle }

-- each of these files is on the disk, and its number is small enough for a name
abbrev pub AllThere : Disk → List SourceFile → Type 0
AllThere d files = (file : SourceFile) → Contains files file → IsSourceThere d file

-- no two of these files have the same name in a copy of the log
abbrev pub AreApart : List SourceFile → Type 0
AreApart [] = Unit {0}
AreApart (file ∷ files) = ((other : SourceFile) → Contains files other
    → built_name file.kind file.seq ≡ built_name other.kind other.seq → ⊥) × AreApart files

-- why finding the files fails: listing a directory fails, or finding and opening the files in it does
abbrev pub IsSourceRefusal : List (List ℕ) → Disk → Error → Type 0
IsSourceRefusal directories d error = FailsToListAll directories d error ⊎ FailsToFindFiles directories d error

-- Which files of a log its directories have. A file's name says its kind and its number.
use Rattle.std.specs.Prelude.{◌≡◌, ℕ, ◌<◌, ◌⊎◌, None, List, [], ◌∷◌, ◌++◌, suc, length, slice_index_or, Contains}
use Rattle.std.specs.String.{string_bytes}
use Rattle.raft_log_record_base.specs.declared.errors.Error.{Error}
use Rattle.raft_log_record_base.specs.declared.errors.Error.TheVariants as errors
use Rattle.raft_log_fs.specs.Disk.{Disk, IsPlain}
use Rattle.raft_log_file_format.specs.Name.{name_limit}
use Rattle.raft_log_recovery_scan.specs.Names.{name_of, IsNameOf, IsOther, IsMisnamed, told_misnamed}
use Rattle.raft_log_recovery_scan.specs.declared.file_kind.FileKind.{FileKind}
use Rattle.raft_log_recovery_scan.specs.declared.scanning.found.FoundFile.{FoundFile}

-- Among names.

-- `files` are the log files of this kind among `names`, in the order of the names. `place` is the position of their
-- directory in the settings. No name is misnamed (`IsMisnamed`).
abbrev pub AreAmong : FileKind → ℕ → List (List ℕ) → List FoundFile → Type 0
AreAmong kind place [] files = files ≡ []
AreAmong kind place (name ∷ names) files = (IsOther kind name × AreAmong kind place names files)
    ⊎ ((file : FoundFile) × (more : List FoundFile) × IsNameOf kind file.signed file.seq name
    × (file.path_id ≡ place) × (files ≡ file ∷ more) × AreAmong kind place names more)

-- `files` are the log files of this kind among the names in several directories, in the order of the names. `place` is
-- the position of the first directory in the settings. No name is misnamed.
abbrev pub AreAmongAll : FileKind → ℕ → List (List (List ℕ)) → List FoundFile → Type 0
AreAmongAll kind place [] files = files ≡ []
AreAmongAll kind place (names ∷ listings) files = (first : List FoundFile) × (more : List FoundFile)
    × AreAmong kind place names first × AreAmongAll kind (suc place) listings more × (files ≡ first ++ more)

-- `text` is the error message for one of these names, which is misnamed
abbrev pub TellsOneOf : FileKind → List (List ℕ) → List ℕ → Type 0
TellsOneOf kind names text =
    (name : List ℕ) × Contains names name × IsMisnamed kind name × (text ≡ told_misnamed name)

-- The errors of finding the log files among a directory's names: `Corruption` with the name if one is misnamed, or
-- `Memory`.
abbrev pub FailsAmong : FileKind → List (List ℕ) → Error → Type 0
FailsAmong kind names (errors.Corruption text) = TellsOneOf kind names (string_bytes text)
FailsAmong kind names errors.Memory = Unit {0}
FailsAmong kind names _ = ⊥

-- The errors of finding the log files among the names in several directories: `Corruption` with the name if one is
-- misnamed, or `Memory`.
abbrev pub FailsAmongAll : FileKind → List (List (List ℕ)) → Error → Type 0
FailsAmongAll kind listings (errors.Corruption text) =
    (names : List (List ℕ)) × Contains listings names × TellsOneOf kind names (string_bytes text)
FailsAmongAll kind listings errors.Memory = Unit {0}
FailsAmongAll kind listings _ = ⊥

-- On a disk.

-- the path of a file that was found: its directory, and its name there
abbrev pub found_path : FileKind → List (List ℕ) → FoundFile → List ℕ
found_path kind directories file =
    slice_index_or directories file.path_id [] ++ 47 ∷ name_of kind file.signed file.seq

-- The file is in one of these directories. Its name is the one that this kind of file has for its number, with a plus
-- sign or without one.
pub record FileLiesIn (kind : FileKind) (directories : List (List ℕ)) (d : Disk) (file : FoundFile) : Type 0 where
  pub listed : file.path_id < length directories
  pub small : file.seq < name_limit file.signed
  pub there : d.names (found_path kind directories file) ≡ None → ⊥

-- one of these directories has a file with this name
pub record HasName (directories : List (List ℕ)) (d : Disk) (name : List ℕ) : Type 0 where
  pub directory : List ℕ
  pub listed : Contains directories directory
  pub plain : IsPlain name
  pub there : d.names (directory ++ 47 ∷ name) ≡ None → ⊥

-- no element of the list occurs twice
abbrev pub AreDistinct : {X : Type 0} → List X → Type 0
AreDistinct [] = Unit {0}
AreDistinct (x ∷ xs) = (Contains xs x → ⊥) × AreDistinct xs

-- `files` are exactly the files of this kind in these directories, each once, and no name in the directories is
-- misnamed
pub record AreFilesIn (kind : FileKind) (directories : List (List ℕ)) (d : Disk) (files : List FoundFile)
    : Type 0 where
  pub found : (file : FoundFile) → Contains files file → FileLiesIn kind directories d file
  pub all : (file : FoundFile) → FileLiesIn kind directories d file → Contains files file
  pub once : AreDistinct files
  pub named : (name : List ℕ) → HasName directories d name → IsMisnamed kind name → ⊥

-- Lists of files in memory (`StoredFile`). A list was laid out in a directory (`HoldsExactly`), or gathered from one
-- (`AreGathered`).
use Rattle.std.specs.Prelude.{◌≡◌, ℕ, true, List, ◌∷◌, ◌++◌, map, None}
use Rattle.std.specs.List.{All, Contains}
use Rattle.std.specs.String.{string_bytes}
use Rattle.raft_log_fs.specs.Disk.{Disk, IsPlain, at_rest}
use Rattle.raft_log_fs.specs.Reading.{IsListing}
use Rattle.raft_log_fs.specs.Touching.{HasNamed, TouchesOnlyNames}
use Rattle.raft_log_directory_copies.specs.declared.stored_file.StoredFile.{StoredFile}

-- the path of a file in a directory
abbrev pub path_in : List ℕ → List ℕ → List ℕ
path_in directory name = directory ++ 47 ∷ name

-- the name of a file
abbrev pub name_of : StoredFile → List ℕ
name_of file = string_bytes file.name

-- the names of files
abbrev pub names_of : List StoredFile → List (List ℕ)
names_of files = map name_of files

-- the directory has no file
abbrev pub IsUnnamed : List ℕ → Disk → Type 0
IsUnnamed directory d = (name : List ℕ) → IsPlain name → d.names (path_in directory name) ≡ None

-- there is a file at `path` with these bytes, all of them synced
abbrev pub IsAtRest : List ℕ → List ℕ → Disk → Type 0
IsAtRest path bytes d = HasNamed path (λ file. file ≡ at_rest bytes) d

-- there is a file at `path`, and a read of it returns these bytes
abbrev pub HasContent : List ℕ → List ℕ → Disk → Type 0
HasContent path bytes d = HasNamed path (λ file. file.content ≡ bytes) d

-- a file was created at `path` with these bytes, all of them synced, and no other path changed
pub record MakesFile (path bytes : List ℕ) (old new : Disk) : Type 0 where
  pub free : old.names path ≡ None
  pub made : IsAtRest path bytes new
  pub others : TouchesOnlyNames (λ other. other ≡ path) old new

-- the directory exists, and has exactly the files of the list, each with its bytes synced
pub record HoldsExactly (files : List StoredFile) (directory : List ℕ) (d : Disk) : Type 0 where
  pub there : d.directories directory ≡ true
  pub kept : All (λ file. IsAtRest (path_in directory (name_of file)) file.bytes.items d) files
  pub only : (name : List ℕ) → IsPlain name → (d.names (path_in directory name) ≡ None → ⊥)
      → Contains (names_of files) name

-- the directory exists, and has exactly the files of some list, all synced
abbrev pub HoldsFiles : List ℕ → Disk → Type 0
HoldsFiles directory d = (files : List StoredFile) × HoldsExactly files directory d

-- `files` has each file of the directory once, with the bytes that a read of this file returns
pub record AreGathered (files : List StoredFile) (directory : List ℕ) (d : Disk) : Type 0 where
  pub listed : IsListing directory d (names_of files)
  pub read : All (λ file. HasContent (path_in directory (name_of file)) file.bytes.items d) files

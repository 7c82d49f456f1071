-- Which files and paths a call changes, and which it leaves unchanged.
use Rattle.std.specs.Prelude.{◌≡◌, ℕ, Some, List}
use Rattle.raft_log_fs.specs.Disk.{File, Disk}

-- file number `id` exists, and `P` is true of this file
pub record HasFile (id : ℕ) (P : File → Type 0) (d : Disk) : Type 0 where
  pub file : File
  pub is : d.files id ≡ Some file
  pub has : P file

-- a file has this path, and `P` is true of it
pub record HasNamed (path : List ℕ) (P : File → Type 0) (d : Disk) : Type 0 where
  pub id : ℕ
  pub named : d.names path ≡ Some id
  pub file : HasFile id P d

-- paths, directories, and all files but `id` are unchanged
pub record TouchesOnly (id : ℕ) (old new : Disk) : Type 0 where
  pub names : new.names ≡ old.names
  pub directories : new.directories ≡ old.directories
  pub others : (other : ℕ) → (other ≡ id → ⊥) → new.files other ≡ old.files other

-- Directories are unchanged. Each path that isn't in `own` has the same file as before, and that file is unchanged.
pub record TouchesOnlyNames (own : List ℕ → Type 0) (old new : Disk) : Type 0 where
  pub directories : new.directories ≡ old.directories
  pub names : (path : List ℕ) → (own path → ⊥) → new.names path ≡ old.names path
  pub files : (path : List ℕ) (id : ℕ) → (own path → ⊥) → old.names path ≡ Some id
      → new.files id ≡ old.files id

-- Suppose a call changes only paths in `own`, and `P` is true of a file at another path. Then `P` is still true of the
-- file at that path. So calls on one queue's files don't affect those of the other queue.
abbrev pub OtherNamesStay : (List ℕ → Type 0) → (File → Type 0) → Type 0
OtherNamesStay own P = (old new : Disk) (path : List ℕ) → TouchesOnlyNames own old new → (own path → ⊥)
    → HasNamed path P old → HasNamed path P new

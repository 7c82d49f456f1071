-- What creating, deleting and renaming files changes, and what it leaves unchanged. A file that isn't deleted keeps
-- its content and its unsynced changes.
use Rattle.std.specs.Prelude.{◌≡◌, ℕ, Some, None, List, []}
use Rattle.raft_log_fs.specs.Disk.{File, Disk, at_rest}
use Rattle.raft_log_fs.specs.Image.{IsSound}
use Rattle.raft_log_fs.specs.Calls.{created, deleted, renamed}

-- creating a file gives `path` an empty, synced file, and changes no other path and no other file
pub record CreationLeaves (path : List ℕ) (d : Disk) : Type 0 where
  pub named : (created path d).names path ≡ Some d.unused
  pub empty : (created path d).files d.unused ≡ Some (at_rest [])
  pub names : (other : List ℕ) → (other ≡ path → ⊥) → (created path d).names other ≡ d.names other
  pub files : (id : ℕ) (file : File) → d.files id ≡ Some file → (created path d).files id ≡ Some file

-- deleting a file removes its path and the file, and changes no other path and no other file
pub record DeletionLeaves (path : List ℕ) (id : ℕ) (d : Disk) : Type 0 where
  pub unnamed : (deleted path id d).names path ≡ None
  pub gone : (deleted path id d).files id ≡ None
  pub names : (other : List ℕ) → (other ≡ path → ⊥) → (deleted path id d).names other ≡ d.names other
  pub files : (other : ℕ) → (other ≡ id → ⊥) → (deleted path id d).files other ≡ d.files other

-- After renaming, `to` is the file's path. No file has the path `from`, unless the two paths are equal. The file itself
-- is unchanged. Another file that had the path `to` is gone. No other path and no other file is changed.
pub record RenamingLeaves (from to : List ℕ) (id : ℕ) (d : Disk) : Type 0 where
  pub named : (renamed from to id d).names to ≡ Some id
  pub unnamed : (from ≡ to → ⊥) → (renamed from to id d).names from ≡ None
  pub itself : (renamed from to id d).files id ≡ d.files id
  pub replaced : (other : ℕ) → d.names to ≡ Some other → (other ≡ id → ⊥)
      → (renamed from to id d).files other ≡ None
  pub names : (other : List ℕ) → (other ≡ from → ⊥) → (other ≡ to → ⊥)
      → (renamed from to id d).names other ≡ d.names other
  pub files : (other : ℕ) → (d.names to ≡ Some other → ⊥) → (renamed from to id d).files other ≡ d.files other

-- creating, deleting and renaming files changes only the paths and files of the call; for creating, the disk must be
-- consistent
pub record NamesChange : Type 0 where
  pub creation : (d : Disk) (path : List ℕ) → IsSound d → CreationLeaves path d
  pub deletion : (d : Disk) (path : List ℕ) (id : ℕ) → DeletionLeaves path id d
  pub renaming : (d : Disk) (from to : List ℕ) (id : ℕ) → RenamingLeaves from to id d

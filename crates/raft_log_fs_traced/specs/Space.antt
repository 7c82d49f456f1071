-- The free space that a file system over a device returns for a directory, and what it does if a file finds no space.
-- The free space depends on the limit that is set for the directory, and on the size of the directory's files when one
-- of them found no space.
use Rattle.std.specs.Prelude.{◌≡◌, ℕ, ◌⊎◌, suc, min, false, Option, Some, List, ◌∷◌}
use Rattle.std.specs.BTreeMap.{get_by_text}
use Rattle.std.specs.Map.{update}
use Rattle.std.specs.Str.{bytes_eq}
use Rattle.std.specs.declared.io.ErrorKind.{ErrorKind}
use Rattle.std.specs.declared.io.ErrorKind.TheVariants.{ResourceBusy, StorageFull}
use Rattle.raft_log_fs.specs.Disk.{Change}
use Rattle.raft_log_fs_state.specs.Storage.{contents_of}
use Rattle.raft_log_fs_memory.specs.Space.{HasUsed, IsFree, LiesIn, unlimited}
use Rattle.raft_log_fs_traced.specs.Device.{Undone, noted}
use Rattle.raft_log_fs_traced.specs.Directory.{CountIsFull, calls_of, disk_of}
use Rattle.raft_log_fs_traced.specs.declared.device.Device as device
use Rattle.raft_log_fs_traced.specs.declared.directory.DirectoryFileSystem.{DirectoryFileSystem}

module _ {D : Type 0} (g : device.Ghosts D) where
  -- how many bytes the files of a directory may have in all, if a space is set for it
  abbrev pub spaces_of : DirectoryFileSystem D g → List ℕ → Option ℕ
  spaces_of system = get_by_text system.spaces

  -- for each directory in which a file found no space: how many bytes its files had then
  abbrev pub full_of : DirectoryFileSystem D g → List ℕ → Option ℕ
  full_of system = get_by_text system.full

  -- `free` is the free space of `directory`: the lower of `set` and `found`. `set` is what the directory's files leave
  -- of the space that is set for the directory. `found` is what these files leave of the bytes that they had when one
  -- of them found no space.
  pub record TellsFree (system : DirectoryFileSystem D g) (directory : List ℕ) (free : ℕ) : Type 0 where
    pub set : ℕ
    pub found : ℕ
    pub of_set : IsFree (spaces_of system) directory (contents_of system.storage) set
    pub of_found : IsFree (full_of system) directory (contents_of system.storage) found
    pub least : free ≡ min set found

  -- `file` is in `directory`, whose files have `used` bytes, and this number was noted for the directory (2^64 - 1 if
  -- it is greater)
  pub record NotesUsed (file : ℕ) (old new : DirectoryFileSystem D g) : Type 0 where
    pub directory : List ℕ
    pub inside : LiesIn file directory (contents_of new.storage)
    pub used : ℕ
    pub has : HasUsed directory (contents_of new.storage) used
    pub noted : full_of new ≡ update bytes_eq (full_of old) directory (Some (min used unlimited))

  -- How many bytes the files of `file`'s directory have was noted. Or nothing was noted, because memory ran out or
  -- because the file has no name.
  abbrev pub NotesFull : ℕ → DirectoryFileSystem D g → DirectoryFileSystem D g → Type 0
  NotesFull file old new = (full_of new ≡ full_of old) ⊎ NotesUsed file old new

  -- `file` found no space. The call fails with `StorageFull`, this failure was counted, and the file system runs.
  pub record CountsLack (file : ℕ) (error : ErrorKind) (old new : DirectoryFileSystem D g) : Type 0 where
    pub told : error ≡ StorageFull
    pub runs : (disk_of g new).stopped ≡ false
    pub failures : (disk_of g new).failures ≡ suc (disk_of g old).failures
    pub kinds : (disk_of g new).kinds ≡ StorageFull ∷ (disk_of g old).kinds
    pub full : NotesFull file old new

  -- If the device undid `change` of `file` for lack of space, this was counted, and the file system runs. It stops in
  -- two cases only: the count of failures had no room, or memory ran out while the model noted the change
  -- (`ResourceBusy`).
  abbrev pub GoesOnAfterUndone : ℕ → Change → ErrorKind → DirectoryFileSystem D g → DirectoryFileSystem D g → Type 0
  GoesOnAfterUndone file change error old new = calls_of g new ≡ noted (Undone file change) (calls_of g old)
      → CountsLack file error old new ⊎ (CountIsFull (disk_of g old) ⊎ (error ≡ ResourceBusy))

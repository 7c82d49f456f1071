-- What each call of a file system in memory does to its disk, and to the list of unsynced changes of all files.
use Rattle.std.specs.Prelude.{◌≡◌, ℕ, ◌+◌, ◌⊎◌, ◌<◌, ◌≤◌, min, cond, nat_eq, Option, Some, None, List, [], ◌∷◌, ◌++◌, length}
use Rattle.std.specs.declared.io.ErrorKind.{ErrorKind}
use Rattle.std.specs.declared.io.ErrorKind.TheVariants.{OutOfMemory, StorageFull}
use Rattle.raft_log_fs.specs.Disk.{Change, GrewTo, File, Disk, changed, with_file, file_limit}
use Rattle.raft_log_fs.specs.Image.{end_of}
use Rattle.raft_log_fs.specs.Calls.{with_change, flushed, deleted, renamed}
use Rattle.raft_log_fs_state.specs.declared.storage.Storage.{Storage}
use Rattle.raft_log_fs_state.specs.Changes.{with_rest}
use Rattle.raft_log_fs_state.specs.Order.{without_file}
use Rattle.raft_log_fs_state.specs.Left.{left_disk}
use Rattle.raft_log_fs_state.specs.declared.remainder.Remainder.{Remainder}
use Rattle.raft_log_fs_state.specs.Storage.{contents_of, unsynced_of}

-- `new` has the same disk as `old`, and the same unsynced changes in the same order
pub record IsSame (old new : Storage) : Type 0 where
  pub contents : contents_of new ≡ contents_of old
  pub order : unsynced_of new ≡ unsynced_of old

-- The file after `change` was made. `rest` are the bytes or zeros that a failed write or growth was asked for, but
-- didn't add. The file's list of changes includes `rest`, its content doesn't.
abbrev pub after_part : Change → List ℕ → File → File
after_part change rest file = with_change (with_rest change rest) (changed change file.content) file

-- File `id`, if it exists, got `change`, and this is the last unsynced change of all files. `rest` are the bytes or
-- zeros that a failed write or growth was asked for, but didn't add.
pub record Makes (id : ℕ) (change : Change) (rest : List ℕ) (old new : Storage) : Type 0 where
  pub contents : (file : File) → (contents_of old).files id ≡ Some file
      → contents_of new ≡ with_file id (Some (after_part change rest file)) (contents_of old)
  pub order : unsynced_of new ≡ unsynced_of old ++ (id, change) ∷ []

-- A growth of file `id` to `size` bytes failed and added no zero. If the file exists, its content is the same, and its
-- unsynced changes end with the growth that was asked for. The list of all files' changes then ends with a growth that
-- adds nothing.
pub record NotesGrowth (id size : ℕ) (old new : Storage) : Type 0 where
  pub contents : (file : File) → (contents_of old).files id ≡ Some file
      → contents_of new ≡ with_file id (Some (with_change (GrewTo size) file.content file)) (contents_of old)
  pub order : (file : File) → (contents_of old).files id ≡ Some file
      → unsynced_of new ≡ unsynced_of old ++ (id, GrewTo (min (length file.content) size)) ∷ []

-- file `id`, if it exists, was synced, and its changes were removed from the unsynced ones
pub record SyncsFile (id : ℕ) (old new : Storage) : Type 0 where
  pub contents : (file : File) → (contents_of old).files id ≡ Some file
      → contents_of new ≡ with_file id (Some (flushed file)) (contents_of old)
  pub order : unsynced_of new ≡ without_file id (unsynced_of old)

-- `after` has the disk that a crash leaves of `old`, as `what` chooses
abbrev pub IsLeftBy : Remainder → Storage → Storage → Type 0
IsLeftBy what old after = contents_of after ≡ left_disk what (unsynced_of old) (contents_of old)

-- the disk changed as `next` says, for example got a new name, and the unsynced changes are the same
pub record AddsName (next : Disk → Disk) (old new : Storage) : Type 0 where
  pub contents : contents_of new ≡ next (contents_of old)
  pub order : unsynced_of new ≡ unsynced_of old

-- the name `path` and its file `id` were deleted, and the file's changes were removed from the unsynced ones
pub record DropsName (path : List ℕ) (id : ℕ) (old new : Storage) : Type 0 where
  pub contents : contents_of new ≡ deleted path id (contents_of old)
  pub order : unsynced_of new ≡ without_file id (unsynced_of old)

-- The unsynced changes after file `id` was renamed to a name that another file had: those of the replaced file are
-- gone. If the name was the file's own, nothing is removed.
abbrev pub without_replaced : ℕ → Option ℕ → List (ℕ × Change) → List (ℕ × Change)
without_replaced id None unsynced = unsynced
without_replaced id (Some gone) unsynced = cond (nat_eq gone id) unsynced (without_file gone unsynced)

-- File `id` was renamed from `from` to `to`. If another file had the name `to`, that file was deleted, with its
-- unsynced changes.
pub record MovesName (from to : List ℕ) (id : ℕ) (old new : Storage) : Type 0 where
  pub contents : contents_of new ≡ renamed from to id (contents_of old)
  pub order : unsynced_of new ≡ without_replaced id ((contents_of old).names to) (unsynced_of old)

-- a file's size in bytes; 0 if there is none
abbrev pub size_of : Option File → ℕ
size_of None = 0
size_of (Some file) = length file.content

-- file `id` exists, and `change` would make it grow by more than `free` bytes
pub record GrowsPast (free id : ℕ) (change : Change) (d : Disk) : Type 0 where
  pub file : File
  pub is : d.files id ≡ Some file
  pub past : length file.content + free < length (changed change file.content)

-- `error` says why `change` wasn't made. `OutOfMemory`: memory ran out. `StorageFull`: the change ends at offset 2^63
-- or after, or its file would grow by more than `free` bytes.
abbrev pub IsRoomFault : ℕ → ℕ → Change → Disk → ErrorKind → Type 0
IsRoomFault free id change d error = (error ≡ OutOfMemory)
    ⊎ ((error ≡ StorageFull) × ((file_limit ≤ end_of change) ⊎ GrowsPast free id change d))

-- The paths and files of a file system in memory, as a disk.
use Rattle.std.specs.Prelude.{◌≡◌, ℕ, Bool, true, false, List, [], ◌∷◌, Option, Some, None, suc, vec_len}
use Rattle.std.specs.Option.{option_map}
use Rattle.std.specs.List.{AllZip}
use Rattle.std.specs.BTreeMap.{get_by_text}
use Rattle.std.specs.Map.{update}
use Rattle.std.specs.Str.{bytes_eq}
use Rattle.std.proofs.Props.{props}
use Rattle.raft_log_fs.proofs.Public.{Change-set, IsSound-prop}
use Rattle.raft_log_fs.specs.Disk.{Change, File, Disk}
use Rattle.raft_log_fs.specs.Image.{IsSound}
use Rattle.raft_log_fs_state.specs.declared.storage.Node.{Node}
use Rattle.raft_log_fs_state.specs.declared.storage.Node.TheVariants as nodes
use Rattle.raft_log_fs_state.specs.declared.storage.Storage.{Storage}
use Rattle.raft_log_fs_state.specs.Changes.{Made, IsLanded}
use Rattle.raft_log_fs_state.specs.Held.{held_of, file_of}
use Rattle.raft_log_fs_state.specs.Order.{in_order, changes_of, Rises, AreStamped}

-- the number of the file that the node is, if it is a file
abbrev pub file_named : Option Node → Option ℕ
file_named None = None
file_named (Some nodes.Directory) = None
file_named (Some (nodes.File id)) = Some id

-- whether the node is a directory
abbrev pub is_directory : Option Node → Bool
is_directory None = false
is_directory (Some nodes.Directory) = true
is_directory (Some (nodes.File id)) = false

-- the node (file or directory) at a path
abbrev pub node_at : Storage → List ℕ → Option Node
node_at storage path = get_by_text storage.paths path

-- each path has the same node in `new` as in `old`, or none in both
abbrev pub SameNodes : Storage → Storage → Type 0
SameNodes old new = (path : List ℕ) → node_at new path ≡ node_at old path

-- `path` has `node` in `new` (none if it is `None`); each other path has what it has in `old`
abbrev pub PutsNode : List ℕ → Option Node → Storage → Storage → Type 0
PutsNode path node old new = (q : List ℕ) → node_at new q ≡ update bytes_eq (node_at old) path node q

-- the storage as the disk of a file system that runs, without failures or unreadable bytes
abbrev pub contents_of : Storage → Disk
contents_of storage = record {
  directories = λ path. is_directory (node_at storage path);
  names = λ path. file_named (node_at storage path);
  files = λ id. option_map file_of (held_of storage.files.items id);
  unused = vec_len storage.files;
  unreadable = λ id place. false;
  stopped = false;
  failures = 0;
  kinds = [];
}

-- the unsynced changes of all files, each with its file's number, in the order of the calls
abbrev pub unsynced_of : Storage → List (ℕ × Change)
unsynced_of storage = in_order storage.made (held_of storage.files.items) (vec_len storage.files)

-- the disk is consistent; the stamps of each file's changes rise, and no two files share a stamp
pub record IsStorageSound (storage : Storage) : Type 0 where
  pub sound : IsSound (contents_of storage)
  pub stamped : AreStamped storage.made (held_of storage.files.items)

-- In the list of all files' unsynced changes, the changes of an existing file are that file's own changes, in the same
-- order. If a failed write wrote only a prefix, the list has this prefix, and the file has all bytes that were passed
-- in.
abbrev pub OrderIsTheFiles : Type 0
OrderIsTheFiles = (storage : Storage) (id : ℕ) (file : File) → IsStorageSound storage
    → (contents_of storage).files id ≡ Some file
    → AllZip IsLanded (changes_of id (unsynced_of storage)) file.changes

-- `Rises` is a proposition
pub Rises-prop : (low next : ℕ) (made : List Made) → IsProp (Rises low next made)
Rises-prop low next [] = hlevel props
Rises-prop low next (m ∷ ms) = hlevel (Rises-prop (suc m.stamp) next ms, props)

-- `IsStorageSound` is a proposition, so that a type may keep it as a field
pub IsWhole-prop : (storage : Storage) → IsProp (IsStorageSound storage)
IsWhole-prop storage = hlevel (IsSound-prop, Rises-prop, Change-set, props)

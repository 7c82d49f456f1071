-- The total size of the files of a directory, and by how many bytes they may still grow.
use Rattle.std.specs.Prelude.{◌≡◌, ℕ, ◌-◌, ◌<◌, ◌≤◌, ◌⊎◌, ◌++◌, Option, Some, None, List, [], ◌∷◌, length, sum_by, slice_index_or}
use Rattle.std.specs.List.{Contains}
use Rattle.std.specs.declared.io.ErrorKind.{ErrorKind}
use Rattle.std.specs.declared.io.ErrorKind.TheVariants.{OutOfMemory, StorageFull}
use Rattle.raft_log_fs.specs.Disk.{Change, Disk, IsPlain, IsPathIn, file_limit}
use Rattle.raft_log_fs.specs.Image.{end_of}
use Rattle.raft_log_fs_state.specs.Steps.{size_of, GrowsPast}

-- the size in bytes of the file with this number; 0 if there is none
abbrev pub size_named : Disk → Option ℕ → ℕ
size_named d None = 0
size_named d (Some id) = size_of (d.files id)

-- the size in bytes of the file at `path`; 0 if there is none
abbrev pub size_at : Disk → List ℕ → ℕ
size_at d path = size_named d (d.names path)

-- `names` are the names of all files in the directory, each once
pub record ListsFiles (directory : List ℕ) (d : Disk) (names : List (List ℕ)) : Type 0 where
  pub listed : (name : List ℕ) → Contains names name → (d.names (directory ++ 47 ∷ name) ≡ None → ⊥)
      × IsPlain name
  pub all : (name : List ℕ) → IsPlain name → (d.names (directory ++ 47 ∷ name) ≡ None → ⊥)
      → Contains names name
  pub once : (j k : ℕ) → j < k → k < length names → slice_index_or names j [] ≡ slice_index_or names k [] → ⊥

-- `used` is the total size of a directory's files in bytes
pub record HasUsed (directory : List ℕ) (d : Disk) (used : ℕ) : Type 0 where
  pub names : List (List ℕ)
  pub listed : ListsFiles directory d names
  pub sum : used ≡ sum_by (λ name. size_at d (directory ++ 47 ∷ name)) names

-- the free space that is reported if no space is set
abbrev pub unlimited : ℕ
unlimited = 18446744073709551615

-- `free` is what the directory's files leave of the space that is set for it, or 0 if they leave none; it is
-- `unlimited` if no space is set
abbrev pub IsLeftFree : Option ℕ → List ℕ → Disk → ℕ → Type 0
IsLeftFree None directory d free = free ≡ unlimited
IsLeftFree (Some space) directory d free = (used : ℕ) × HasUsed directory d used × (free ≡ space - used)

-- `free` is the number of bytes by which the files of a directory may still grow; `spaces` gives the space set for each
-- directory
abbrev pub IsFree : (List ℕ → Option ℕ) → List ℕ → Disk → ℕ → Type 0
IsFree spaces directory d free = IsLeftFree (spaces directory) directory d free

-- file `id` has a name in this directory
pub record LiesIn (id : ℕ) (directory : List ℕ) (d : Disk) : Type 0 where
  pub path : List ℕ
  pub named : d.names path ≡ Some id
  pub inside : IsPathIn directory path

-- `free` is the number of bytes by which file `id` may still grow: the free space of a directory that the file has a
-- name in. If no space is set for any such directory, `free` is `unlimited`.
abbrev pub MayGrowBy : (List ℕ → Option ℕ) → ℕ → Disk → ℕ → Type 0
MayGrowBy spaces id d free = ((directory : List ℕ) × LiesIn id directory d × IsFree spaces directory d free)
    ⊎ (((directory : List ℕ) → LiesIn id directory d → spaces directory ≡ None) × (free ≡ unlimited))

-- `change` would make file `id` grow by more bytes than are free for it
abbrev pub LacksSpace : (List ℕ → Option ℕ) → ℕ → Change → Disk → Type 0
LacksSpace spaces id change d = (free : ℕ) × MayGrowBy spaces id d free × GrowsPast free id change d

-- the bytes that are free for file `id` are enough for `change`
abbrev pub HasSpace : (List ℕ → Option ℕ) → ℕ → Change → Disk → Type 0
HasSpace spaces id change d = LacksSpace spaces id change d → ⊥

-- Why there is no room for `change`:
-- - `OutOfMemory`: memory ran out.
-- - `StorageFull`: the change ends at offset 2^63 or after, or too few bytes are free.
abbrev pub HasNoRoom : (List ℕ → Option ℕ) → ℕ → Change → Disk → ErrorKind → Type 0
HasNoRoom spaces id change d error = (error ≡ OutOfMemory)
    ⊎ ((error ≡ StorageFull) × ((file_limit ≤ end_of change) ⊎ LacksSpace spaces id change d))

-- The results of calls that change nothing.
use Rattle.std.specs.Prelude.{◌≡◌, ℕ, ◌+◌, ◌-◌, ◌<◌, ◌≤◌, ◌⊎◌, ◌++◌, true, false, Some, None, List, [], ◌∷◌, length, slice_index_or}
use Rattle.std.specs.List.{Contains}
use Rattle.std.specs.declared.io.ErrorKind.{ErrorKind}
use Rattle.std.specs.declared.io.ErrorKind.TheVariants.{Other}
use Rattle.std.proofs.Common.{min, take, drop}
use Rattle.raft_log_fs.specs.Disk.{File, Disk, IsPlain}
use Rattle.raft_log_fs.specs.declared.handle.Handle.{Handle}
use Rattle.raft_log_fs.specs.declared.handle.Permission.{Permission}
use Rattle.raft_log_fs.specs.Arguments.{WrongHandle, WrongName, WrongListing, IsAfterStop, IsDeclined}

-- `handle` is open with this permission for the file that has the path
pub record IsOpened (path : List ℕ) (permission : Permission) (handle : Handle) (d : Disk) : Type 0 where
  pub runs : d.stopped ≡ false
  pub is : d.names path ≡ Some handle.file
  pub permitted : handle.permission ≡ permission

-- A read put the bytes of the file from offset `at` on into its buffer, until the buffer was full or the file ended. It
-- read `count` bytes. The rest of the buffer is unchanged.
pub record FillsRoom (id at : ℕ) (d : Disk) (before after : List ℕ) (count : ℕ) : Type 0 where
  pub runs : d.stopped ≡ false
  pub file : File
  pub is : d.files id ≡ Some file
  pub number : count ≡ min (length before) (length file.content - at)
  pub bytes : after ≡ take count (drop at file.content) ++ drop count before

-- none of the `count` offsets of the file from `at` on is unreadable
abbrev pub AreReadable : ℕ → ℕ → ℕ → Disk → Type 0
AreReadable id at count d = (place : ℕ) → at ≤ place → place < at + count → d.unreadable id place ≡ false

-- Why a read of `count` bytes at offset `at` fails. After a stop, the error is `Other`. If the file was deleted, it is
-- `NotFound`. If an offset in the read's range and within the file is unreadable, it is `Other`.
pub data IsUnread (handle : Handle) (at count : ℕ) (d : Disk) (error : ErrorKind) : Type 0 where
  stopped : d.stopped ≡ true → error ≡ Other → IsUnread handle at count d error
  gone : d.stopped ≡ false → WrongHandle handle d error → IsUnread handle at count d error
  unreadable : (file : File) (place : ℕ) → d.files handle.file ≡ Some file → at ≤ place → place < at + count
      → place < length file.content
      → d.unreadable handle.file place ≡ true → error ≡ Other → IsUnread handle at count d error

-- `count` is the size of the file `id`
pub record IsSize (id : ℕ) (d : Disk) (count : ℕ) : Type 0 where
  pub runs : d.stopped ≡ false
  pub file : File
  pub is : d.files id ≡ Some file
  pub size : count ≡ length file.content

-- `names` lists the names of all files in the directory, each once, in any order
pub record IsListing (directory : List ℕ) (d : Disk) (names : List (List ℕ)) : Type 0 where
  pub runs : d.stopped ≡ false
  pub there : d.directories directory ≡ true
  pub listed : (name : List ℕ) → Contains names name → (d.names (directory ++ 47 ∷ name) ≡ None → ⊥)
      × IsPlain name
  pub all : (name : List ℕ) → IsPlain name → (d.names (directory ++ 47 ∷ name) ≡ None → ⊥)
      → Contains names name
  pub once : (j k : ℕ) → j < k → k < length names → slice_index_or names j [] ≡ slice_index_or names k [] → ⊥

-- Why the file at `path` wasn't opened: a stop, no such file, or lack of memory.
abbrev pub IsNotOpened : List ℕ → Disk → ErrorKind → Type 0
IsNotOpened path d error = IsDeclined (WrongName path d error) d error

-- why a directory wasn't listed, or its free space wasn't returned: a stop, a wrong path, or lack of memory
abbrev pub IsNotListed : List ℕ → Disk → ErrorKind → Type 0
IsNotListed directory d error = IsDeclined (WrongListing directory d error) d error

-- why a file's size wasn't returned: a stop, or the handle's file was deleted
abbrev pub IsNotMeasured : Handle → Disk → ErrorKind → Type 0
IsNotMeasured handle d error = IsAfterStop d error ⊎ ((d.stopped ≡ false) × WrongHandle handle d error)

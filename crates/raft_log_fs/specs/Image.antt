-- What a crash at this moment may leave of a disk: its crash images.
use Rattle.std.specs.Prelude.{◌≡◌, ℕ, ◌+◌, ◌<◌, ◌≤◌, true, false, Option, Some, None, List, [], length, slice_index}
use Rattle.std.specs.List.{All}
use Rattle.std.specs.Option.{option_map}
use Rattle.raft_log_fs.specs.Disk.{Change, Wrote, ShortenedTo, GrewTo, File, Disk, IsPathIn, at_rest, file_limit}
use Rattle.raft_log_fs.specs.Calls.{flushed}

-- The change touches offset `place`. A write touches the offsets of its range, a truncation all from the new size on,
-- a growth none.
abbrev pub Touches : Change → ℕ → Type 0
Touches (Wrote at bytes) place = (at ≤ place) × (place < at + length bytes)
Touches (ShortenedTo size) place = size ≤ place
Touches (GrewTo size) place = ⊥

-- the change doesn't touch offset `place`
abbrev pub Spares : ℕ → Change → Type 0
Spares place change = Touches change place → ⊥

-- the size up to which the change may have extended the file
abbrev pub end_of : Change → ℕ
end_of (Wrote at bytes) = at + length bytes
end_of (ShortenedTo size) = 0
end_of (GrewTo size) = size

-- A crash may leave `bytes` as the content of the file. A synced byte that no unsynced change touches is kept. All
-- other bytes may have any value, or be missing at the end. `bytes` is at most as long as the synced content, or as the
-- largest end of an unsynced change, whichever is larger.
pub record IsLeft (file : File) (bytes : List ℕ) : Type 0 where
  pub kept : (place : ℕ) → place < length file.synced → All (Spares place) file.changes
      → (place < length bytes) × (slice_index bytes place ≡ slice_index file.synced place)
  pub within : (size : ℕ) → length file.synced ≤ size → All (λ change. end_of change ≤ size) file.changes
      → length bytes ≤ size

-- the file after a restart: it has some content that the crash may leave, all synced
abbrev pub IsFileImage : Option File → Option File → Type 0
IsFileImage None None = Unit {0}
IsFileImage None (Some after) = ⊥
IsFileImage (Some before) None = ⊥
IsFileImage (Some before) (Some after) = (bytes : List ℕ) × (after ≡ at_rest bytes) × IsLeft before bytes

-- `image` is a crash image of `d`: what a crash at this moment may leave. Directories and paths are unchanged, and each
-- file has some content that the crash may leave. The file system runs, no offset is unreadable, and no failures are
-- counted or recorded.
pub record IsImage (d image : Disk) : Type 0 where
  pub directories : image.directories ≡ d.directories
  pub names : image.names ≡ d.names
  pub unused : image.unused ≡ d.unused
  pub files : (id : ℕ) → IsFileImage (d.files id) (image.files id)
  pub readable : (id place : ℕ) → image.unreadable id place ≡ false
  pub running : image.stopped ≡ false
  pub uncounted : image.failures ≡ 0
  pub untold : image.kinds ≡ []

-- The file is consistent. Its content is one that a crash may leave. Everything that a crash may leave is shorter than
-- 2 ^ 63 bytes.
pub record IsSoundFile (file : File) : Type 0 where
  pub stands : IsLeft file file.content
  pub short : length file.synced < file_limit
  pub ends : All (λ change. end_of change < file_limit) file.changes

-- The disk is consistent. The file of each path exists, and no file has two paths. No path is both a file's and a
-- directory's. If a file's path is in a directory, that directory exists. Unused numbers have no file. Each file is
-- consistent.
pub record IsSound (d : Disk) : Type 0 where
  pub named : (path : List ℕ) (id : ℕ) → d.names path ≡ Some id → d.files id ≡ None → ⊥
  pub one_name : (a b : List ℕ) (id : ℕ) → d.names a ≡ Some id → d.names b ≡ Some id → a ≡ b
  pub apart : (path : List ℕ) (id : ℕ) → d.names path ≡ Some id → d.directories path ≡ false
  pub home : (directory path : List ℕ) (id : ℕ) → d.names path ≡ Some id → IsPathIn directory path
      → d.directories directory ≡ true
  pub fresh : (id : ℕ) → d.unused ≤ id → d.files id ≡ None
  pub files : (id : ℕ) (file : File) → d.files id ≡ Some file → IsSoundFile file

-- the disk after a restart, if all unsynced changes were kept
abbrev pub as_it_stands : Disk → Disk
as_it_stands d = record d {
  files = λ id. option_map flushed (d.files id);
  unreadable = λ id place. false;
  stopped = false;
  failures = 0;
  kinds = [];
}

-- no file has unsynced changes
abbrev pub IsAllSynced : Disk → Type 0
IsAllSynced d = (id : ℕ) (file : File) → d.files id ≡ Some file → file.changes ≡ []

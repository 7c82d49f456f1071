-- How an open makes the reserved files that the settings want. Reserved files are kept for recycling, and have reserved
-- names.
use Rattle.std.specs.Prelude.{◌≡◌, ◌-◌, ◌⊎◌, ◌^◌, ◌++◌, ℕ, suc, min, max, Bool, if◌then◌else◌, Option, Some, None, List, length, take, drop, reverse}
use Rattle.std.specs.List.{last_or}
use Rattle.raft_log_record_base.specs.declared.errors.Error.{Error}
use Rattle.raft_log_fs.specs.Disk.{Disk, zeros}
use Rattle.raft_log_active_file.specs.Layout.{FilePaths}
use Rattle.raft_log_active_file.specs.declared.format.File.{File}
use Rattle.raft_log_recovery.specs.Dropping.{DropsEach, FailsToDropEach}
use Rattle.raft_log_recovery.specs.Making.{FailsToMakeEach, MakesEach}

-- the number after that of the file, at most 2 ^ 64 - 1; 1 if there is no file
abbrev pub number_behind : Option File → ℕ
number_behind None = 1
number_behind (Some file) = min (suc file.seq) (2 ^ 64 - 1)

-- the number after that of the last of these files; 1 if there is none
abbrev pub next_number : List File → ℕ
next_number files = number_behind (last_or None files)

-- the zeros that one write adds to a new file: as many as the file's size, but at least 1 and at most 16 MiB
abbrev pub piece : ℕ → List ℕ
piece size = zeros (max 1 (min size (2 ^ 24)))

-- how many reserved files are kept: `wanted`, but none if a write failed for lack of space (`full`)
abbrev pub kept_of : Bool → ℕ → ℕ
kept_of full wanted = if full then 0 else wanted

-- `disk` gives the disk of a file system's state. `tells` says which sizes the file system may return as a directory's
-- free space.
module _ {F : Type 0} (disk : F → Disk) (tells : F → List ℕ → ℕ → Type 0) where
  -- Reserved files were made until there were `wanted`. `files` are those that existed before. `all` has these, and
  -- then the new ones.
  pub record MakesMissing (paths : FilePaths) (size wanted : ℕ) (files all : List File) (full : Bool)
      (old new : F) : Type 0 where
    pub made : List File
    pub count : length made ≡ wanted - length files
    pub all_is : all ≡ files ++ made
    pub makes : MakesEach disk tells paths (piece size) size (next_number files) made full old new

  -- Reserved files were made until there were `wanted`. Then the deletion of each file that isn't in `kept` was tried,
  -- from the newest file on.
  pub record Readies (paths : FilePaths) (size wanted : ℕ) (files kept : List File) (old new : F)
      : Type 0 where
    pub all : List File
    pub full : Bool
    pub between : F
    pub makes : MakesMissing paths size wanted files all full old between
    pub kept_is : kept ≡ take (kept_of full wanted) all
    pub drops : DropsEach paths (reverse (drop (kept_of full wanted) all)) (disk between) (disk new)

  -- making one of the wanted files failed; the files before it were made, under their reserved names
  abbrev pub FailsToMakeMissing : FilePaths → ℕ → ℕ → List File → Error → F → F → Type 0
  FailsToMakeMissing paths size wanted files error old new = FailsToMakeEach disk tells paths (piece size)
      size (next_number files) (wanted - length files) error old new

  -- All wanted files were made. Then no name could be made for a file that was to be deleted: its number has more than
  -- sixteen digits, or memory ran out.
  pub record FailsToDropSurplus (paths : FilePaths) (size wanted : ℕ) (files : List File) (error : Error)
      (old new : F) : Type 0 where
    pub all : List File
    pub full : Bool
    pub between : F
    pub makes : MakesMissing paths size wanted files all full old between
    pub fails : FailsToDropEach paths (reverse (drop (kept_of full wanted) all)) error
        (disk between) (disk new)

  -- why readying the reserved files fails: a file couldn't be made, or no name could be made for a file to be deleted
  abbrev pub FailsToReady : FilePaths → ℕ → ℕ → List File → Error → F → F → Type 0
  FailsToReady paths size wanted files error old new =
      FailsToMakeMissing paths size wanted files error old new
      ⊎ FailsToDropSurplus paths size wanted files error old new

-- How reserved files are made and filled. Reserved files are kept for recycling, and have reserved names. `disk` gives
-- the disk of a file system's state. `tells` says which sizes the file system may return as a directory's free space.
use Rattle.std.specs.Prelude.{◌≡◌, ◌+◌, ◌<◌, ◌≤◌, ◌^◌, ℕ, suc, Bool, true, false, ◌||◌, List, [], ◌∷◌, length}
use Rattle.raft_log_record_base.specs.declared.errors.Error.{Error}
use Rattle.raft_log_record_base.specs.declared.errors.Error.TheVariants as errors
use Rattle.raft_log_record_base.specs.declared.pipe_log.Version.TheVariants.{V1}
use Rattle.raft_log_fs.specs.Disk.{Disk}
use Rattle.raft_log_fs.specs.Calls.{Creates}
use Rattle.raft_log_fs.specs.Exits.{FailsToCreate}
use Rattle.raft_log_fs.specs.declared.handle.Permission.TheVariants.{ReadWrite}
use Rattle.raft_log_active_file.specs.Layout.{FilePaths, path_of}
use Rattle.raft_log_active_file.specs.declared.format.File.{File}
use Rattle.raft_log_file_pipe.specs.Placing.{IsChosen}
use Rattle.raft_log_recovery.specs.Filling.{FillsOrNot}

-- `made` is how many of `count` files were made before the failure. It is less than `count`. If memory ran out, it may
-- also be `count`, because the list of files needs memory too.
abbrev pub AreFewer : Error → ℕ → ℕ → Type 0
AreFewer errors.Memory made count = made ≤ count
AreFewer _ made count = made < count

module _ {F : Type 0} (disk : F → Disk) (tells : F → List ℕ → ℕ → Type 0) where
  -- A file was made under the reserved name of number `seq`. It is in the first directory that had room for it, or else
  -- in the main one. `bytes` were written into it again and again, until it had at least `size` bytes or a write
  -- failed. `full` says whether a write failed for lack of space.
  pub record Makes (paths : FilePaths) (bytes : List ℕ) (size seq : ℕ) (file : File) (full : Bool)
      (old new : F) : Type 0 where
    pub number : file.seq ≡ seq
    pub small : seq < 10 ^ 16
    pub reserved : file.reserved ≡ true
    pub format : file.format ≡ record { version = V1; alignment = 0 }
    pub permitted : file.handle.permission ≡ ReadWrite
    pub placed : IsChosen (tells old) (disk old) size paths.directories file.path_id
    pub created : Disk
    pub creates : Creates (path_of paths file) file.handle.file (disk old) created
    pub fills : FillsOrNot file.handle bytes size full created (disk new)

  -- Why making a file fails:
  -- - `Memory`: memory ran out.
  -- - `NumberRange`: the number has more than sixteen digits.
  -- - `Io`: the creation of the file failed.
  abbrev pub FailsToMake : FilePaths → ℕ → ℕ → Error → F → F → Type 0
  FailsToMake paths size seq errors.Memory old new = disk new ≡ disk old
  FailsToMake paths size seq errors.NumberRange old new = (10 ^ 16 ≤ seq) × (disk new ≡ disk old)
  FailsToMake paths size seq (errors.Io kind) old new = (seq < 10 ^ 16)
      × ((directory : ℕ) × IsChosen (tells old) (disk old) size paths.directories directory
      × FailsToCreate (paths.reserved directory seq) kind (disk old) (disk new))
  FailsToMake paths size seq _ old new = ⊥

  -- these files were made, with consecutive numbers from `seq` on; `full` says whether a write failed for lack of space
  abbrev pub MakesEach : FilePaths → List ℕ → ℕ → ℕ → List File → Bool → F → F → Type 0
  MakesEach paths bytes size seq [] full old new = (full ≡ false) × (new ≡ old)
  MakesEach paths bytes size seq (file ∷ files) full old new = (one : Bool) × (others : Bool) × (mid : F)
      × Makes paths bytes size seq file one old mid
      × MakesEach paths bytes size (suc seq) files others mid new × (full ≡ one || others)

  -- Making one of `count` files failed, and the files before it were made. Or all were made, and memory ran out after
  -- that (`AreFewer`).
  pub record FailsToMakeEach (paths : FilePaths) (bytes : List ℕ) (size seq count : ℕ) (error : Error)
      (old new : F) : Type 0 where
    pub made : List File
    pub full : Bool
    pub fewer : AreFewer error (length made) count
    pub between : F
    pub makes : MakesEach paths bytes size seq made full old between
    pub fails : FailsToMake paths size (seq + length made) error between new

-- Laws that follow from the definitions. Public functions without a body state them in their contracts.
use Rattle.std.specs.Prelude.{◌≡◌, ℕ, ◌<◌, Bool, true, false, Some, None, List, [], ◌∷◌}
use Rattle.std.specs.List.{Contains}
use Rattle.std.specs.declared.io.ErrorKind.{ErrorKind}
use Rattle.std.proofs.Math.ListN.{set}
use Rattle.raft_log_fs.specs.Disk.{Change, File, Disk, IsPathIn, HasDirectory, at_rest, with_file, file_limit}
use Rattle.raft_log_fs.specs.Image.{Touches, end_of, IsLeft, IsImage, IsSound, as_it_stands, IsAllSynced}
use Rattle.raft_log_fs.specs.Calls.{with_change, flushed, created, deleted, renamed, with_directory, with_marks, counted, at_stop, InPart, IsStopKind, IsRight, RefusedChange, RefusedWhole}
use Rattle.raft_log_fs.specs.Causes.{HasCause, Fails, IsUndisturbed}

-- a consistent disk has a crash image that keeps the present content of every file
abbrev pub StandsIsImage : Type 0
StandsIsImage = (d : Disk) → IsSound d → IsImage d (as_it_stands d)

-- if no file of a consistent disk has unsynced changes, the only crash image is the one that keeps the present content
-- of every file
abbrev pub SyncedIsOnlyImage : Type 0
SyncedIsOnlyImage = (d image : Disk) → IsSound d → IsAllSynced d → IsImage d image → image ≡ as_it_stands d

-- if a file of a consistent disk has no unsynced changes, it has its present content in every crash image
abbrev pub SyncedFileHasOneImage : Type 0
SyncedFileHasOneImage = (d image : Disk) (id : ℕ) (file : File) → IsSound d → d.files id ≡ Some file
    → file.changes ≡ [] → IsImage d image
    → image.files id ≡ Some (at_rest file.content)

-- a crash image of a crash image of `d` is a crash image of `d`
abbrev pub ImageOfImage : Type 0
ImageOfImage = (d image later : Disk) → IsImage d image → IsImage image later → IsImage d later

-- every crash image of a consistent disk is consistent
abbrev pub ImageIsSound : Type 0
ImageIsSound = (d image : Disk) → IsSound d → IsImage d image → IsSound image

-- If a crash may leave `bytes` of a file, it may also leave any other byte at an offset that an unsynced change
-- touches.
abbrev pub AnyByteLeft : Type 0
AnyByteLeft = (file : File) (bytes : List ℕ) (change : Change) (place byte : ℕ)
    → Contains file.changes change → Touches change place
    → IsLeft file bytes → IsLeft file (set bytes place byte)

-- if nothing disturbs disk `new`, and no failure was counted since `old`, a call on these files has no cause to fail
abbrev pub UndisturbedHasNoCause : (ℕ → Type 0) → Type 0
UndisturbedHasNoCause files = (old new : Disk) → IsUndisturbed new → new.failures ≡ old.failures
    → HasCause files old new → ⊥

-- Unreadable offsets of other files are no cause for a call to fail. If every offset of the call's files is readable
-- after it, a failure was counted, or the file system has stopped.
abbrev pub OtherFilesAreNoCause : (ℕ → Type 0) → Type 0
OtherFilesAreNoCause files = (old new : Disk) → ((id place : ℕ) → files id → new.unreadable id place ≡ false)
    → HasCause files old new → Fails old new

-- If a call with right arguments fails and the file system still runs, the failure is recorded: the call's error is now
-- the latest of the recorded kinds. `wrong` says which arguments are wrong, and `done` how the disk is after success.
pub record CountedRefusalTellsItsKind (wrong : ErrorKind → Type 0) (done : Disk → Type 0) : Type 0 where
  pub change : (id : ℕ) (change : Change) (error : ErrorKind) (old new : Disk)
      → IsRight wrong → new.stopped ≡ false → RefusedChange id change wrong error old new
      → new.kinds ≡ error ∷ old.kinds
  pub whole : (error : ErrorKind) (old new : Disk)
      → IsRight wrong → new.stopped ≡ false → RefusedWhole done wrong error old new
      → new.kinds ≡ error ∷ old.kinds

-- If a call with right arguments fails and the file system still runs, the disks before and after it determine its
-- error.
pub record CountedRefusalHasOneKind (wrong : ErrorKind → Type 0) (done : Disk → Type 0) : Type 0 where
  pub change : (id : ℕ) (change : Change) (a b : ErrorKind) (old new : Disk)
      → IsRight wrong → new.stopped ≡ false → RefusedChange id change wrong a old new
      → RefusedChange id change wrong b old new → a ≡ b
  pub whole : (a b : ErrorKind) (old new : Disk)
      → IsRight wrong → new.stopped ≡ false → RefusedWhole done wrong a old new
      → RefusedWhole done wrong b old new → a ≡ b

-- If a call fails and the file system has stopped after it, whether at this call or before, the error isn't
-- `OutOfMemory`.
pub record StopIsNoWantOfMemory (wrong : ErrorKind → Type 0) (done : Disk → Type 0) : Type 0 where
  pub change : (id : ℕ) (change : Change) (error : ErrorKind) (old new : Disk)
      → new.stopped ≡ true → RefusedChange id change wrong error old new → IsStopKind error
  pub whole : (error : ErrorKind) (old new : Disk)
      → new.stopped ≡ true → RefusedWhole done wrong error old new → IsStopKind error

-- Each changing call, whether it succeeds or fails, leaves a consistent disk consistent. A write or growth must end
-- below `file_limit`.
pub record CallsKeepSound : Type 0 where
  pub change : (d : Disk) (id : ℕ) (file : File) (change : Change) (content : List ℕ) → IsSound d
      → d.files id ≡ Some file
      → InPart change file.content content → end_of change < file_limit
      → IsSound (with_file id (Some (with_change change content file)) d)
  pub sync : (d : Disk) (id : ℕ) (file : File) → IsSound d → d.files id ≡ Some file
      → IsSound (with_file id (Some (flushed file)) d)
  pub create : (d : Disk) (path : List ℕ) → IsSound d → d.names path ≡ None → d.directories path ≡ false
      → HasDirectory path d → IsSound (created path d)
  pub delete : (d : Disk) (path : List ℕ) (id : ℕ) → IsSound d → d.names path ≡ Some id
      → IsSound (deleted path id d)
  pub rename : (d : Disk) (from to : List ℕ) (id : ℕ) → IsSound d → d.names from ≡ Some id
      → d.directories to ≡ false → HasDirectory to d → IsSound (renamed from to id d)
  pub directory : (d : Disk) (path : List ℕ) → IsSound d → d.names path ≡ None
      → IsSound (with_directory path d)
  pub failure : (error : ErrorKind) (d : Disk) → IsSound d → IsSound (counted error d)
  pub stop : (d : Disk) → IsSound d → IsSound (at_stop d)

-- on a consistent disk, the number of each file with a path was used before
abbrev pub NamedIsUsed : Type 0
NamedIsUsed = (d : Disk) (path : List ℕ) (id : ℕ) → IsSound d → d.names path ≡ Some id → id < d.unused

-- on a consistent disk, no file is in a directory that doesn't exist
abbrev pub AbsentHoldsNoName : Type 0
AbsentHoldsNoName = (d : Disk) (directory path : List ℕ) → IsSound d → d.directories directory ≡ false
    → IsPathIn directory path → d.names path ≡ None

-- The crash images of a disk don't depend on which offsets are unreadable, on the failures, or on whether the file
-- system has stopped.
pub record ImagesStay : Type 0 where
  pub marks : (d image : Disk) (unreadable : ℕ → ℕ → Bool) → IsImage d image
      → IsImage (with_marks unreadable d) image
  pub failure : (error : ErrorKind) (d image : Disk) → IsImage d image → IsImage (counted error d) image
  pub stop : (d image : Disk) → IsImage d image → IsImage (at_stop d) image
  pub failure_back : (error : ErrorKind) (d image : Disk) → IsImage (counted error d) image → IsImage d image
  pub marks_back : (d image : Disk) (unreadable : ℕ → ℕ → Bool) → IsImage (with_marks unreadable d) image
      → IsImage d image
  pub stop_back : (d image : Disk) → IsImage (at_stop d) image → IsImage d image

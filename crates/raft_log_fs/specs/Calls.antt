-- How each call changes the disk if it succeeds, and what it may leave if it fails. `old` is the disk before the call,
-- and `new` the disk after it. `left` is the disk of a failed call before the failure is counted or the stop is noted.
use Rattle.std.specs.Prelude.{◌≡◌, ℕ, ◌+◌, ◌<◌, ◌≤◌, ◌⊎◌, Bool, true, false, cond, Option, Some, None, List, [], ◌∷◌, ◌++◌, length, slice_index, suc}
use Rattle.std.specs.Map.{update}
use Rattle.std.specs.Str.{bytes_eq}
use Rattle.std.proofs.Common.{nat_eq, take}
use Rattle.std.specs.declared.io.ErrorKind.{ErrorKind}
use Rattle.std.specs.declared.io.ErrorKind.TheVariants.{OutOfMemory, Other, ResourceBusy}
use Rattle.raft_log_fs.specs.Disk.{Change, Wrote, ShortenedTo, GrewTo, File, Disk, at_rest, zeros, changed, with_file, HasDirectory}

-- the file with new content, and with `change` added to the changes that are not synced
abbrev pub with_change : Change → List ℕ → File → File
with_change change content file =
    record { content = content; synced = file.synced; changes = file.changes ++ change ∷ [] }

-- the file after `change` was done in full, and not synced
abbrev pub after_change : Change → File → File
after_change change file = with_change change (changed change file.content) file

-- the file after a sync: its content is durable, and it has no unsynced changes
abbrev pub flushed : File → File
flushed file = at_rest file.content

-- the disk after an empty file was created at `path`
abbrev pub created : List ℕ → Disk → Disk
created path d = record d {
  names = update bytes_eq d.names path (Some d.unused);
  files = update nat_eq d.files d.unused (Some (at_rest []));
  unused = suc d.unused;
}

-- the disk after the file `id` at `path` was deleted
abbrev pub deleted : List ℕ → ℕ → Disk → Disk
deleted path id d =
    record d { names = update bytes_eq d.names path None; files = update nat_eq d.files id None }

-- the files without the one of this number; for `None`, all of them
abbrev pub without : Option ℕ → (ℕ → Option File) → ℕ → Option File
without None files = files
without (Some id) files = update nat_eq files id None

-- The disk after the file `id` was renamed. Another file that had the path `to` is gone. The content and unsynced
-- changes of the renamed file stay the same.
abbrev pub renamed : List ℕ → List ℕ → ℕ → Disk → Disk
renamed from to id d = record d {
  names = update bytes_eq (update bytes_eq d.names from None) to (Some id);
  files = update nat_eq (without (d.names to) d.files) id (d.files id);
}

-- the disk with one more directory
abbrev pub with_directory : List ℕ → Disk → Disk
with_directory path d = record d { directories = λ q. cond (bytes_eq path q) true (d.directories q) }

-- the disk with other marks; these say which offsets of files are unreadable
abbrev pub with_marks : (ℕ → ℕ → Bool) → Disk → Disk
with_marks marks d = record d { unreadable = marks }

-- the marks, with one more at offset `place` of this file; for `None`, the same marks
abbrev pub marked : Option ℕ → ℕ → (ℕ → ℕ → Bool) → ℕ → ℕ → Bool
marked None place marks id at = marks id at
marked (Some file) place marks id at =
    cond (nat_eq file id) (cond (nat_eq place at) true (marks id at)) (marks id at)

-- the disk after offset `place` became unreadable in the file of path `name`; unchanged if no file has this path
abbrev pub denied : List ℕ → ℕ → Disk → Disk
denied name place d = with_marks (marked (d.names name) place d.unreadable) d

-- the disk with one more failure counted, and its error kind recorded
abbrev pub counted : ErrorKind → Disk → Disk
counted error d = record d { failures = suc d.failures; kinds = error ∷ d.kinds }

-- the disk of a file system that has stopped
abbrev pub at_stop : Disk → Disk
at_stop d = record d { stopped = true }

-- What a write of `bytes` at offset `at` may leave of the content `old` if it fails after some bytes. The old bytes
-- outside of its range are unchanged, and all others may have any value. The file doesn't shrink, and doesn't grow
-- beyond its old end or the write's end, whichever is later.
pub record IsTorn (at : ℕ) (bytes old new : List ℕ) : Type 0 where
  pub outside : (place : ℕ) → place < length old → (place < at) ⊎ (at + length bytes ≤ place)
      → slice_index new place ≡ slice_index old place
  pub longer : length old ≤ length new
  pub within : (size : ℕ) → length old ≤ size → at + length bytes ≤ size → length new ≤ size

-- What a failed change may leave of the content `old`; `new` is that content. A write may be torn. A truncation is done
-- or not. A growth may have added some of its zeros.
abbrev pub InPart : Change → List ℕ → List ℕ → Type 0
InPart (Wrote at bytes) old new = IsTorn at bytes old new
InPart (ShortenedTo size) old new = (new ≡ old) ⊎ (new ≡ take size old)
InPart (GrewTo size) old new =
    (count : ℕ) × (length old + count ≤ size ⊎ (count ≡ 0)) × (new ≡ old ++ zeros count)

-- the file system runs, and the file `id` was changed by `next`; nothing else was changed
pub record Changes (id : ℕ) (next : File → File) (old new : Disk) : Type 0 where
  pub runs : old.stopped ≡ false
  pub file : File
  pub is : old.files id ≡ Some file
  pub done : new ≡ with_file id (Some (next file)) old

-- An empty file with the number `id` was created at `path`. The path was free, and its directory exists.
pub record Creates (path : List ℕ) (id : ℕ) (old new : Disk) : Type 0 where
  pub runs : old.stopped ≡ false
  pub free : old.names path ≡ None
  pub apart : old.directories path ≡ false
  pub home : HasDirectory path old
  pub number : id ≡ old.unused
  pub done : new ≡ created path old

-- the path and its file were deleted
pub record Deletes (path : List ℕ) (old new : Disk) : Type 0 where
  pub runs : old.stopped ≡ false
  pub id : ℕ
  pub is : old.names path ≡ Some id
  pub done : new ≡ deleted path id old

-- The file at `from` was renamed to `to`. No directory has the path `to`, and the parent directory of `to` exists.
pub record Renames (from to : List ℕ) (old new : Disk) : Type 0 where
  pub runs : old.stopped ≡ false
  pub id : ℕ
  pub is : old.names from ≡ Some id
  pub apart : old.directories to ≡ false
  pub home : HasDirectory to old
  pub done : new ≡ renamed from to id old

-- a directory was created at `path`, which was free
pub record MakesDirectory (path : List ℕ) (old new : Disk) : Type 0 where
  pub runs : old.stopped ≡ false
  pub free : old.names path ≡ None
  pub apart : old.directories path ≡ false
  pub done : new ≡ with_directory path old

-- no argument of the call is wrong: `wrong` is true of no error
abbrev pub IsRight : (ErrorKind → Type 0) → Type 0
IsRight wrong = (error : ErrorKind) → wrong error → ⊥

-- Any error but `OutOfMemory`. A call at which the file system stops doesn't return `OutOfMemory`: callers would infer
-- that nothing was done and that the call can be repeated.
abbrev pub IsStopKind : ErrorKind → Type 0
IsStopKind error = error ≡ OutOfMemory → ⊥

-- The file system stops at a call that was to fail with `kind`, and the call fails with `error`. `error` is `kind`,
-- with one exception: it is `ResourceBusy` if `kind` is `OutOfMemory`.
pub record IsToldAtStop (kind error : ErrorKind) : Type 0 where
  pub stops : IsStopKind error
  pub told : (error ≡ kind) ⊎ ((kind ≡ OutOfMemory) × (error ≡ ResourceBusy))

-- A call failed. `part` is true of the disks that a failed call may leave, and `done` of the disk after success.
-- `wrong` is true of the errors for wrong arguments.
-- - `after_stop`: the file system had stopped before. Nothing changes, and the error is `Other`.
-- - `wrong_argument`: the error says which argument is wrong. Nothing changes, and no failure is counted.
-- - `failed`: no argument is wrong. A failure with this error is counted, and the call may be done in part.
-- - `stops`: the file system stops; the error isn't `OutOfMemory`. If no argument is wrong, a part or all may be done.
pub data Refused (part done : Disk → Type 0) (wrong : ErrorKind
    → Type 0) (error : ErrorKind) (old new : Disk) : Type 0 where
  after_stop : old.stopped ≡ true → new ≡ old → error ≡ Other → Refused part done wrong error old new
  wrong_argument : old.stopped ≡ false → wrong error → new ≡ old → Refused part done wrong error old new
  failed : old.stopped ≡ false → IsRight wrong → (left : Disk) → part left → new ≡ counted error left
      → Refused part done wrong error old new
  stops : old.stopped ≡ false → IsStopKind error → (left : Disk) → (left ≡ old) ⊎ (IsRight wrong × (part left ⊎ done left))
      → new ≡ at_stop left
      → Refused part done wrong error old new

-- The failed call left the disk unchanged. A sync or a rename, for example, is done in full or not at all.
abbrev pub Nothing : Disk → Disk → Type 0
Nothing old left = left ≡ old

-- What a failed write, truncation or growth may leave: the same disk, or the file with a part of the change. A change
-- that was done in part is added to the unsynced changes.
pub data SomeOf (id : ℕ) (change : Change) (old left : Disk) : Type 0 where
  none : left ≡ old → SomeOf id change old left
  some : (file : File) (content : List ℕ) → old.files id ≡ Some file → InPart change file.content content
      → left ≡ with_file id (Some (with_change change content file)) old → SomeOf id change old left

-- the write, truncation or growth `change` of the file `id` failed
abbrev pub RefusedChange : ℕ → Change → (ErrorKind → Type 0) → ErrorKind → Disk → Disk → Type 0
RefusedChange id change wrong error old new =
    Refused (SomeOf id change old) (Changes id (after_change change) old) wrong error old new

-- a call that is done in full or not at all failed; `done` is true of the disk after it succeeds
abbrev pub RefusedWhole : (Disk → Type 0) → (ErrorKind → Type 0) → ErrorKind → Disk → Disk → Type 0
RefusedWhole done wrong error old new = Refused (Nothing old) done wrong error old new

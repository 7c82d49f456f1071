-- Purging a pipe: the files below the number `seq` leave the live range. Some of them are kept for recycling, the
-- others are deleted. `capacity` limits the files of the live range and those kept for recycling, together. `before`
-- and `after` are the pipe's files, `old` and `new` the disk.
use Rattle.std.specs.Prelude.{◌≡◌, ℕ, ◌-◌, ◌<◌, ◌≤◌, ◌^◌, false, nat_lt, ◌&&◌, if◌then◌else◌, Some, None, List, [], ◌∷◌, ◌++◌, length, map, take, drop, slice_index_or, suc}
use Rattle.std.specs.Map.{update}
use Rattle.std.specs.Str.{bytes_eq}
use Rattle.raft_log_fs.specs.Disk.{Disk}
use Rattle.raft_log_fs.specs.Causes.{Fails}
use Rattle.raft_log_file_writer.specs.LogFormat.{Format}
use Rattle.raft_log_file_writer.specs.LogQueue.{LogFiles}
use Rattle.raft_log_record_base.specs.declared.errors.Error.{Error}
use Rattle.raft_log_record_base.specs.declared.errors.Error.TheVariants as errors
use Rattle.raft_log_active_file.specs.Standing.{Names}
use Rattle.raft_log_active_file.specs.Bridge.{GapsStay}
use Rattle.raft_log_active_file.specs.Layout.{FilePaths, path_of}
use Rattle.raft_log_active_file.specs.Rotation.{StandsWithRecords}
use Rattle.raft_log_file_pipe.specs.Files.{Listed, NoneHas, IsSpan, IsPipe}
use Rattle.raft_log_file_pipe.specs.Calls.{DropsBy, DropsUntil}
use Rattle.raft_log_file_pipe.specs.Exits.{SameFiles}
use Rattle.raft_log_file_pipe.specs.declared.pipe_files.PipeFiles.{PipeFiles}
use Rattle.raft_log_record_base.specs.Files.{is_signed}

-- which of these files are kept for recycling if all of them leave the live range: the first `room` ones whose records
-- are signed
abbrev pub staying : ℕ → List Listed → List Listed
staying room [] = []
staying room (f ∷ fs) = if is_signed f.format.version && nat_lt 0 room then f ∷ staying (room - 1) fs
    else staying room fs

-- which of these files are deleted if all of them leave the live range: those that aren't kept for recycling
abbrev pub going : ℕ → List Listed → List Listed
going room [] = []
going room (f ∷ fs) = if is_signed f.format.version && nat_lt 0 room then going (room - 1) fs
    else f ∷ going room fs

-- How many more files may be kept for recycling if the live range begins at `seq`. The live range and the files kept
-- for recycling together may have `capacity` files.
abbrev pub room_from : ℕ → ℕ → PipeFiles → ℕ
room_from capacity seq files = capacity - suc (files.active.seq - seq) - length files.recycled.items

-- `seq` is a number of the live range
abbrev pub IsInSpan : ℕ → PipeFiles → Type 0
IsInSpan seq files = (files.first_seq ≤ seq) × (seq - files.first_seq ≤ length files.earlier.items)

-- `N`, the names of a disk, without these paths
abbrev pub without : List (List ℕ) → Names → Names
without [] N = N
without (path ∷ paths) N = without paths (update bytes_eq N path None)

-- Each of these files is at its path, has a number below the live range, and isn't kept for recycling. No two of them
-- have the same path.
abbrev pub AreGone : FilePaths → Names → ℕ → List Listed → List Listed → Type 0
AreGone paths N first kept [] = Unit {0}
AreGone paths N first kept (f ∷ fs) = (f.seq < first) × (f.reserved ≡ false)
    × ((id : ℕ) × (N (path_of paths f) ≡ Some id)) × NoneHas paths (path_of paths f) kept
    × NoneHas paths (path_of paths f) fs × AreGone paths N first kept fs

-- Suppose a pipe ran over a queue, and the files at these paths were free to be deleted (`AreGone`). Then the first
-- `count` of these files were deleted, in order. The others still exist, and the pipe still runs over the queue.
abbrev pub DropsTo : {R : Type 0} → Format R → (List ℕ → Type 0) → FilePaths → List (List ℕ) → ℕ → Disk → Disk
    → Type 0
DropsTo {R} F own paths gone count old new = (base : Disk) (files : PipeFiles) (q : LogFiles R)
    (gs : List Listed) → gone ≡ map (path_of paths) gs → IsPipe F own paths base files q old
    → AreGone paths old.names files.first_seq files.recycled.items gs → IsPipe F own paths base files q new
    × GapsStay F q old new
    × AreGone paths new.names files.first_seq files.recycled.items (drop count gs) × (new.names ≡ without
    (take count gone) old.names) × DropsBy (take count gone) old new

-- a prefix of these paths names no file any more, and all other names are the same
abbrev pub LosesFirst : List (List ℕ) → Disk → Disk → Type 0
LosesFirst gone old new = (count : ℕ) × (new.names ≡ without (take count gone) old.names)

-- Deleting the file at one of these paths failed. Suppose a pipe ran over a queue, and the files at these paths were
-- free to be deleted (`AreGone`). Then a prefix of these paths names no file any more. The last file holds its records,
-- and the files of the live range are at their paths.
abbrev pub FailsToDropAll : {R : Type 0} → Format R → (List ℕ → Type 0) → FilePaths → List (List ℕ) → Disk
    → Disk → Type 0
FailsToDropAll {R} F own paths gone old new = (base : Disk) (files : PipeFiles) (q : LogFiles R)
    (gs : List Listed) → gone ≡ map (path_of paths) gs → IsPipe F own paths base files q old
    → AreGone paths old.names files.first_seq files.recycled.items gs → Fails old new × StandsWithRecords F own base q
    new × GapsStay F q old new
    × IsSpan paths new.names files.first_seq files.earlier.items q.last × LosesFirst gone old new
    × DropsUntil gone old new

-- the pipe's lists after a purge: the files below `seq` have left the live range, and some of them are kept for
-- recycling
pub record IsRaised (capacity seq : ℕ) (before after : PipeFiles) : Type 0 where
  pub first : after.first_seq ≡ seq
  pub earlier : after.earlier.items ≡ drop (seq - before.first_seq) before.earlier.items
  pub active : after.active ≡ before.active
  pub writer : after.writer ≡ before.writer
  pub recycled : after.recycled.items ≡ before.recycled.items
      ++ staying (room_from capacity seq before) (take (seq - before.first_seq) before.earlier.items)

-- the paths of the files that a purge deletes
abbrev pub paths_going : FilePaths → ℕ → ℕ → PipeFiles → List (List ℕ)
paths_going paths capacity seq files = map (path_of paths)
    (going (room_from capacity seq files) (take (seq - files.first_seq) files.earlier.items))

-- If the pipe ran over a queue, the files to delete were deleted, one after the other. No other name changed, and the
-- pipe still runs over the queue.
abbrev pub Purges : {R : Type 0} → Format R → (List ℕ → Type 0) → FilePaths → ℕ → ℕ → PipeFiles → PipeFiles
    → Disk → Disk → Type 0
Purges {R} F own paths capacity seq before after old new = (base : Disk) (q : LogFiles R)
    → IsPipe F own paths base before q old → IsPipe F own paths base after q new × GapsStay F q old new
    × (new.names ≡ without (paths_going paths capacity seq before) old.names)
    × DropsBy (paths_going paths capacity seq before) old new

-- If the pipe ran over a queue, deleting one of the files to delete failed. The files before that one were deleted. If
-- the file system stopped at that deletion, that file may be deleted too. The last file holds its records. The files of
-- the live range are at their paths.
abbrev pub FailsToPurge : {R : Type 0} → Format R → (List ℕ → Type 0) → FilePaths → ℕ → ℕ → PipeFiles
    → PipeFiles → Disk → Disk → Type 0
FailsToPurge {R} F own paths capacity seq before after old new = (base : Disk) (q : LogFiles R)
    → IsPipe F own paths base before q old → Fails old new × StandsWithRecords F own base q new × GapsStay F q old new
    × IsSpan paths new.names after.first_seq after.earlier.items q.last
    × LosesFirst (paths_going paths capacity seq before) old new
    × DropsUntil (paths_going paths capacity seq before) old new

-- the error is `Other` or `Memory`
abbrev pub IsOtherOrMemory : Error → Type 0
IsOtherOrMemory (errors.Other fault) = Unit {0}
IsOtherOrMemory errors.Memory = Unit {0}
IsOtherOrMemory _ = ⊥

-- why the number of files below `seq` isn't returned: `seq` isn't in the live range. The error is `Other`, or `Memory`
-- if memory ran out for the text.
abbrev pub CountFails : ℕ → PipeFiles → Error → Type 0
CountFails seq files error = (IsInSpan seq files → ⊥) × IsOtherOrMemory error

-- one of these files has a number of more than sixteen digits, which no name has
abbrev pub HasFarFile : List Listed → Type 0
HasFarFile fs = (f : Listed) × (i : ℕ) × (i < length fs) × (f ≡ slice_index_or fs i f) × (10 ^ 16 ≤ f.seq)

-- Why a list of files wasn't split into those to keep and those to delete. Memory ran out, or one of the files has a
-- number of more than sixteen digits.
abbrev pub PartFails : List Listed → Error → Type 0
PartFails fs errors.Memory = Unit {0}
PartFails fs errors.NumberRange = HasFarFile fs
PartFails fs _ = ⊥

-- Why a purge failed, and what it leaves.
-- - `Memory`: memory ran out. Nothing was done.
-- - `Other`: the number isn't in the live range. Nothing was done.
-- - `NumberRange`: one of the files has a number of more than sixteen digits. Nothing was done.
-- - `Failed`: a file call failed. The files below the number have left the live range. Some may not be deleted yet.
abbrev pub PurgeLeaves : {R : Type 0} → Format R → (List ℕ → Type 0) → FilePaths → ℕ → ℕ → PipeFiles →
    PipeFiles
    → Error → Disk → Disk → Type 0
PurgeLeaves F own paths capacity seq before after errors.Memory old new = SameFiles before after × (new ≡ old)
PurgeLeaves F own paths capacity seq before after (errors.Other fault) old new =
    (IsInSpan seq before → ⊥) × SameFiles before after × (new ≡ old)
PurgeLeaves F own paths capacity seq before after errors.NumberRange old new =
    HasFarFile before.earlier.items × SameFiles before after × (new ≡ old)
PurgeLeaves F own paths capacity seq before after errors.Failed old new =
    IsRaised capacity seq before after × FailsToPurge F own paths capacity seq before after old new
PurgeLeaves F own paths capacity seq before after _ old new = ⊥

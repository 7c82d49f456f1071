-- Closing a pipe. Its active file is finished: truncated after its records and synced. Then the files that it keeps for
-- recycling get reserved names.
use Rattle.std.specs.Prelude.{◌≡◌, ℕ, ◌<◌, ◌≤◌, ◌⊎◌, suc, max, true, false, if◌then◌else◌, List, [], ◌∷◌, reverse, Result, Ok, Err}
use Rattle.std.specs.declared.io.ErrorKind.{ErrorKind}
use Rattle.raft_log_fs.specs.Disk.{Disk}
use Rattle.raft_log_fs.specs.Calls.{Renames}
use Rattle.raft_log_fs.specs.Exits.{FailsToRename}
use Rattle.raft_log_record_base.specs.declared.errors.Error.{Error}
use Rattle.raft_log_record_base.specs.declared.errors.Error.TheVariants as errors
use Rattle.raft_log_file_writer.specs.LogFormat.{Format}
use Rattle.raft_log_file_writer.specs.LogQueue.{LogFiles}
use Rattle.raft_log_file_writer.specs.Writer.{Closes, FailsToClose}
use Rattle.raft_log_file_writer.specs.declared.writer.LogFileWriter.{LogFileWriter}
use Rattle.raft_log_active_file.specs.Queue.{settled}
use Rattle.raft_log_active_file.specs.Bridge.{GapsStay}
use Rattle.raft_log_active_file.specs.Layout.{FilePaths, path_of}
use Rattle.raft_log_active_file.specs.Rotation.{StandsWithRecords}
use Rattle.raft_log_file_pipe.specs.Files.{Listed, IsSpan, IsPipe}
use Rattle.raft_log_file_pipe.specs.declared.pipe_files.PipeFiles.{PipeFiles}

-- the greatest number that a reserved name of one of these files has; 0 if none has such a name
abbrev pub greatest_reserved : List Listed → ℕ
greatest_reserved [] = 0
greatest_reserved (f ∷ fs) = if f.reserved then max f.seq (greatest_reserved fs) else greatest_reserved fs

-- What a close does with file `f`, which is kept for recycling. The greatest number of a reserved name is `last` before
-- this, and `next` after it.
-- - `named`: the file got the reserved name with the number after `last`, in the main directory.
-- - `refused`: renaming the file failed.
-- - `unnamed`: there was no memory for a name.
pub data Reserves (paths : FilePaths) (f : Listed) (last next : ℕ) (old new : Disk) : Type 0 where
  named : next ≡ suc last → Renames (path_of paths f) (paths.reserved 0 next) old new
      → Reserves paths f last next old new
  refused : (error : ErrorKind) → next ≡ last
      → FailsToRename (path_of paths f) (paths.reserved 0 (suc last)) error old new
      → Reserves paths f last next old new
  unnamed : next ≡ last → new ≡ old → Reserves paths f last next old new

-- One after the other, each of these files got a reserved name or failed to get one (`Reserves`). This ended at the
-- first file that already had a reserved name.
abbrev pub ReservesAll : FilePaths → List Listed → ℕ → Disk → Disk → Type 0
ReservesAll paths [] last old new = new ≡ old
ReservesAll paths (f ∷ fs) last old new = ((f.reserved ≡ true) × (new ≡ old))
    ⊎ ((f.reserved ≡ false) × ((next : ℕ) × (between : Disk) × Reserves paths f last next old between
    × ReservesAll paths fs next between new))

-- the active file was finished, or finishing it failed
abbrev pub FinishesOrNot : LogFileWriter → Disk → Disk → Type 0
FinishesOrNot writer old new = ((after : LogFileWriter) × Closes writer after old new)
    ⊎ ((after : LogFileWriter) × (error : ErrorKind) × FailsToClose writer after error old new)

-- Either the active file was finished, and the result is success. Or its truncation or its sync failed, and the result
-- is `Io` with the kind of that failure.
abbrev pub FinishesAs : LogFileWriter → Result (Unit {0}) Error → Disk → Disk → Type 0
FinishesAs writer (Ok v) old new = (after : LogFileWriter) × Closes writer after old new
FinishesAs writer (Err (errors.Io kind)) old new =
    (after : LogFileWriter) × FailsToClose writer after kind old new
FinishesAs writer (Err _) old new = ⊥

-- the queue's files are on the disk, and its last file holds its records: durable and pending as in `q`, or all durable
abbrev pub IsHeldOrSettled : {R : Type 0} → Format R → (List ℕ → Type 0) → Disk → LogFiles R → Disk → Type 0
IsHeldOrSettled F own base q d = StandsWithRecords F own base q d ⊎ StandsWithRecords F own base (settled q) d

-- If the pipe ran over a queue, the queue's files are on the disk. The last file holds its records, which are durable
-- or pending as before, or all durable. No gap in the file numbers was filled, and the files of the live range are at
-- their paths.
abbrev pub LeavesClosed : {R : Type 0} → Format R → (List ℕ → Type 0) → FilePaths → PipeFiles → Disk → Disk
    → Type 0
LeavesClosed {R} F own paths files old new = (base : Disk) (q : LogFiles R)
    → IsPipe F own paths base files q old → IsHeldOrSettled F own base q new × GapsStay F q old new
    × IsSpan paths new.names files.first_seq files.earlier.items q.last

-- If the pipe ran over a queue, the queue's files are on the disk, and all its records are durable. No gap in the file
-- numbers was filled, and the files of the live range are at their paths.
abbrev pub IsSettledBy : {R : Type 0} → Format R → (List ℕ → Type 0) → FilePaths → PipeFiles → Disk → Disk
    → Type 0
IsSettledBy {R} F own paths files old new = (base : Disk) (q : LogFiles R)
    → IsPipe F own paths base files q old → StandsWithRecords F own base (settled q) new × GapsStay F q old new
    × IsSpan paths new.names files.first_seq files.earlier.items q.last

-- each of these files has a reserved name, or a number below `n`
abbrev pub AreBelow : ℕ → List Listed → Type 0
AreBelow n [] = Unit {0}
AreBelow n (f ∷ fs) = (f.reserved ≡ false → f.seq < n) × AreBelow n fs

-- each path of a number from `first` on names the same file as before
abbrev pub NumbersStay : {R : Type 0} → Format R → ℕ → Disk → Disk → Type 0
NumbersStay F first old new = (m : ℕ) (path : List ℕ) → first ≤ m → m < F.limit → F.IsPath m path
    → new.names path ≡ old.names path

-- Suppose each file in `fs` has a reserved name, or a number below that of a queue's last file. Then this last file
-- still holds its records, and no gap in the file numbers was filled. Each path of a number above those of the files in
-- `fs` names the same file as before.
abbrev pub StaysLeft : {R : Type 0} → Format R → (List ℕ → Type 0) → List Listed → Disk → Disk → Type 0
StaysLeft {R} F own fs old new = (base : Disk) (q : LogFiles R) → AreBelow q.last fs → StandsWithRecords F own base q old
    → StandsWithRecords F own base q new × GapsStay F q old new
    × ((first : ℕ) → AreBelow first fs → NumbersStay F first old new)

-- The calls of a close. First the active file was finished, or finishing it failed. Then the files kept for recycling
-- got reserved names, the newest first, as far as `ReservesAll` says.
abbrev pub ClosesFiles : FilePaths → PipeFiles → Disk → Disk → Type 0
ClosesFiles paths files old new = (between : Disk) × FinishesOrNot files.writer old between
    × ReservesAll paths (reverse files.recycled.items) (greatest_reserved files.recycled.items) between new

-- The calls of a close, and its result, which is that of finishing the active file. After that the files kept for
-- recycling got reserved names, the newest first, as far as `ReservesAll` says.
abbrev pub ClosesFilesAs : FilePaths → PipeFiles → Result (Unit {0}) Error → Disk → Disk → Type 0
ClosesFilesAs paths files result old new = (between : Disk) × FinishesAs files.writer result old between
    × ReservesAll paths (reverse files.recycled.items) (greatest_reserved files.recycled.items) between new

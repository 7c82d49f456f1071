-- What each call of a pipe leaves, whether it succeeds or fails. `before` and `after` are the pipe's files, `old` and
-- `new` the disk. "The pipe ran over a queue" means that `IsPipe` was true on `old`, for any queue `q` of records in
-- the format `F`. `own` says which paths are the queue's. Since the disk `base`, only these paths and their files have
-- changed.
use Rattle.std.specs.Prelude.{◌≡◌, ℕ, false, ◌≤◌, ◌^◌, List, [], ◌∷◌, ◌++◌, length, drop, suc}
use Rattle.std.specs.declared.io.ErrorKind.{ErrorKind}
use Rattle.raft_log_fs.specs.Disk.{Disk}
use Rattle.raft_log_fs.specs.Causes.{Fails}
use Rattle.raft_log_fs.specs.Exits.{FailsToSync, Syncs}
use Rattle.raft_log_file_writer.specs.LawsChains.{Written}
use Rattle.raft_log_file_writer.specs.LogFormat.{Format}
use Rattle.raft_log_file_writer.specs.LogQueue.{LogFiles, rotated}
use Rattle.raft_log_fs.specs.Touching.{HasFile}
use Rattle.raft_log_record_base.specs.declared.errors.Error.{Error}
use Rattle.raft_log_record_base.specs.declared.errors.Error.TheVariants as errors
use Rattle.raft_log_file_format.specs.declared.header.LogFileFormat.{LogFileFormat}
use Rattle.raft_log_active_file.specs.Queue.{whole, with_more, with_room, settled, synced}
use Rattle.raft_log_active_file.specs.Bridge.{GapsStay}
use Rattle.raft_log_active_file.specs.Layout.{FilePaths}
use Rattle.raft_log_active_file.specs.Rotation.{StandsWithRecords, StaysBehind}
use Rattle.raft_log_active_file.specs.declared.last_file.WriteFault.{WriteFault}
use Rattle.raft_log_active_file.specs.declared.last_file.WriteFault.TheVariants.{CutBack, Failed}
use Rattle.raft_log_file_pipe.specs.Files.{Listed, IsSpan, IsPipe}
use Rattle.raft_log_file_pipe.specs.Calls.{IsUnopened, TurnsBy, TurnsNot}
use Rattle.raft_log_file_pipe.specs.declared.pipe_files.PipeFiles.{PipeFiles}

-- the pipe has the same files in the same lists, and the same writer
pub record SameFiles (before after : PipeFiles) : Type 0 where
  pub first : after.first_seq ≡ before.first_seq
  pub earlier : after.earlier.items ≡ before.earlier.items
  pub active : after.active ≡ before.active
  pub writer : after.writer ≡ before.writer
  pub recycled : after.recycled.items ≡ before.recycled.items

-- `stale` is what the next file holds when it gets its number. It is the content of the oldest file kept for recycling,
-- or nothing if none is kept.
abbrev pub IsStaleOfNext : List Listed → Disk → List ℕ → Type 0
IsStaleOfNext [] d stale = stale ≡ []
IsStaleOfNext (f ∷ fs) d stale = HasFile f.handle.file (λ file. file.content ≡ stale) d

-- The file that was active is now the last of the earlier ones. The active file has the next number and this format.
-- The oldest file kept for recycling, if there was one, is no longer in that list.
pub record IsTurned (format : LogFileFormat) (before after : PipeFiles) : Type 0 where
  pub first : after.first_seq ≡ before.first_seq
  pub earlier : after.earlier.items ≡ before.earlier.items ++ before.active ∷ []
  pub number : after.active.seq ≡ suc before.active.seq
  pub format_is : after.active.format ≡ format
  pub recycled : after.recycled.items ≡ drop 1 before.recycled.items

-- If the pipe ran over a queue, the queue has rotated into its next file, and the pipe runs over the rotated queue. No
-- gap in the file numbers was filled: a number that had no file still has none (`GapsStay`). The file system calls are
-- those of `TurnsBy`.
abbrev pub Rotates : {R : Type 0} → Format R → (List ℕ → Type 0) → FilePaths → List ℕ → PipeFiles → PipeFiles
    → Disk → Disk → Type 0
Rotates {R} F own paths header before after old new = (base : Disk) (q : LogFiles R)
    → IsPipe F own paths base before q old
    → (room : ℕ) × (stale : List ℕ) × IsStaleOfNext before.recycled.items old stale
    × IsPipe F own paths base after (with_room room (rotated header stale q)) new × GapsStay F q old new
    × TurnsBy paths header before.recycled.items before.writer after.active after.writer old new

-- A rotation failed. Suppose the pipe ran over a queue. Then a file call failed. The queue has the same files as
-- before, or also a next file without records (`StaysBehind`). The files of the live range, including the active one,
-- are at their paths.
abbrev pub FailsToRotate : {R : Type 0} → Format R → (List ℕ → Type 0) → FilePaths → List ℕ → PipeFiles
    → Disk → Disk → Type 0
FailsToRotate {R} F own paths header before old new = (base : Disk) (q : LogFiles R)
    → IsPipe F own paths base before q old
    → (stale : List ℕ) × IsStaleOfNext before.recycled.items old stale × StaysBehind F own base q header stale
    old new
    × IsSpan paths new.names before.first_seq (before.earlier.items ++ before.active ∷ []) (suc q.last)
    × TurnsNot paths header before.recycled.items before.writer (suc before.active.seq) old new

-- the errors with which opening the oldest file kept for recycling fails: `Memory` while the file system runs, or
-- `Failed` if it has stopped or no file has the path
abbrev pub StaysClosed : List ℕ → Disk → Error → Type 0
StaysClosed path d errors.Memory = d.stopped ≡ false
StaysClosed path d errors.Failed = IsUnopened path d
StaysClosed path d _ = ⊥

-- Why a rotation failed, and what it leaves.
-- - `Memory`: memory ran out. Nothing was done.
-- - `NumberRange`: nothing was done. If the pipe ran over a queue, the next number has more than sixteen digits.
-- - `Failed`: a file call failed (`FailsToRotate`).
abbrev pub RotationLeaves : {R : Type 0} → Format R → (List ℕ → Type 0) → FilePaths → List ℕ → PipeFiles
    → PipeFiles → Error → Disk → Disk → Type 0
RotationLeaves F own paths header before after errors.Memory old new = SameFiles before after × (new ≡ old)
RotationLeaves {R} F own paths header before after errors.NumberRange old new =
    ((base : Disk) (q : LogFiles R) → IsPipe F own paths base before q old → 10 ^ 16 ≤ suc before.active.seq)
    × SameFiles before after × (new ≡ old)
RotationLeaves F own paths header before after errors.Failed old new =
    FailsToRotate F own paths header before old new
RotationLeaves F own paths header before after _ old new = ⊥

-- Suppose the pipe ran over a queue, and `bytes` encode a record in the queue's last file. Then this record was
-- appended at the offset `at` of that file, and is the last pending one. The pipe runs over the queue with this record.
-- Zeros may be allocated after the record.
abbrev pub Adds : {R : Type 0} → Format R → (List ℕ → Type 0) → FilePaths → List ℕ → ℕ → PipeFiles → PipeFiles
    → Disk → Disk → Type 0
Adds {R} F own paths bytes at before after old new = (base : Disk) (q : LogFiles R) (w : Written R)
    → F.IsFrame q.last q.header w.bytes w.value → w.bytes ≡ bytes → IsPipe F own paths base before q old
    → (at ≡ length (whole q))
    × ((room : ℕ) × IsPipe F own paths base after (with_more (w ∷ []) (with_room room q)) new)

-- What a failed write of the record `w` leaves.
-- - `CutBack`: what was written of `w` was truncated away. All records before `w` are durable, and the pipe still runs
--   over the queue.
-- - `Failed`: the truncation, or the sync after it, failed too. `w` may be on disk, and counts as the last pending one.
--   The files of the live range are at their paths.
abbrev pub AddLeaves : {R : Type 0} → Format R → (List ℕ → Type 0) → FilePaths → WriteFault → Disk → Written R
    → LogFiles R → PipeFiles → Disk → Type 0
AddLeaves F own paths (CutBack kind) base w q after new = IsPipe F own paths base after (settled q) new
AddLeaves F own paths (Failed kind) base w q after new = (room : ℕ)
    × StandsWithRecords F own base (with_more (w ∷ []) (with_room room q)) new
    × IsSpan paths new.names after.first_seq after.earlier.items q.last

-- The record that `bytes` encode wasn't appended. Suppose the pipe ran over a queue. Then a file call failed, and
-- `AddLeaves` says what is left.
abbrev pub FailsToAdd : {R : Type 0} → Format R → (List ℕ → Type 0) → FilePaths → List ℕ → WriteFault →
    PipeFiles
    → PipeFiles → Disk → Disk → Type 0
FailsToAdd {R} F own paths bytes fault before after old new = (base : Disk) (q : LogFiles R) (w : Written R)
    → F.IsFrame q.last q.header w.bytes w.value → w.bytes ≡ bytes → IsPipe F own paths base before q old
    → Fails old new × AddLeaves F own paths fault base w q after new

-- the pipe has the same files in the same lists; its writer may have changed
pub record SameLists (before after : PipeFiles) : Type 0 where
  pub first : after.first_seq ≡ before.first_seq
  pub earlier : after.earlier.items ≡ before.earlier.items
  pub active : after.active ≡ before.active
  pub recycled : after.recycled.items ≡ before.recycled.items

-- if the pipe ran over a queue, one call synced all the queue's records, and the pipe still runs over the queue
abbrev pub SyncsPipe : {R : Type 0} → Format R → (List ℕ → Type 0) → FilePaths → PipeFiles → Disk → Disk
    → Type 0
SyncsPipe {R} F own paths files old new = (base : Disk) (q : LogFiles R) → IsPipe F own paths base files q old
    → IsPipe F own paths base files (synced q) new × Syncs files.writer.handle old new

-- If the pipe ran over a queue, the sync of the active file failed. This file still holds its records, and the files of
-- the live range are at their paths.
abbrev pub FailsToSyncPipe : {R : Type 0} → Format R → (List ℕ → Type 0) → FilePaths → PipeFiles → Disk → Disk
    → Type 0
FailsToSyncPipe {R} F own paths files old new = (base : Disk) (q : LogFiles R)
    → IsPipe F own paths base files q old → Fails old new × StandsWithRecords F own base q new
    × IsSpan paths new.names files.first_seq files.earlier.items q.last
    × ((error : ErrorKind) × FailsToSync files.writer.handle error old new)

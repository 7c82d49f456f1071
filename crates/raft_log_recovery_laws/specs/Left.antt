-- What an engine left on its disk: after a crash, and after an open that fails. A batch is pending if it was written
-- but not synced yet.
use Rattle.std.specs.Prelude.{ℕ, ◌<◌, ◌≤◌, List, [], length, take}
use Rattle.raft_log_model_laws.specs.Groups.{taken}
use Rattle.raft_log_fs.specs.Disk.{Disk}
use Rattle.raft_log_fs.specs.Image.{IsImage}
use Rattle.raft_log_file_writer.specs.LogQueue.{NoChanceInLast}
use Rattle.raft_log_record_base.specs.declared.errors.Error.{Error}
use Rattle.raft_log_dual_pipes.specs.OnDisk.{IsDurableAs}
use Rattle.raft_log_dual_pipes.specs.Opening.{FailsToOpenLog, RestsAsFound}
use Rattle.raft_log_dual_pipes.specs.Pipes.{LogRecordValue, State}
use Rattle.raft_log_dual_pipes.specs.declared.opening.FoundPipe.{FoundPipe}
use Rattle.raft_log_engine_laws.specs.EngineState.{LogDirectories, LogMap, log_in, sense}
use Rattle.raft_log_engine_laws.specs.Holding.{IsRecoverableAs}

-- Disk `image` is a crash image of disk `d`. It has no CRC collision in the active file of either queue of the log `s`.
pub record IsCrashOf (home : LogDirectories) (s : State) (d image : Disk) : Type 0 where
  pub is : IsImage d image
  pub append : NoChanceInLast (log_in home).append.format s.append.files d image
  pub rewrite : NoChanceInLast (log_in home).rewrite.format s.rewrite.files d image

-- Each crash image of what an engine left is a log at rest. It has the contents `m` after a prefix of the pending
-- batches. This requires that there is no CRC collision.
abbrev pub CrashedLogsRest : Type 0
CrashedLogsRest = (home : LogDirectories) → 0 < length home.append → 0 < length home.rewrite → (d image : Disk)
    (m : LogMap) (pending : List LogRecordValue) → (left : IsRecoverableAs home d m pending)
    → IsCrashOf home left.1.lies.state d image
    → (k : ℕ) × (k ≤ length pending) × IsDurableAs (log_in home) image (taken m (take k pending))

-- Disk `d` has a log at rest, with the contents `m` after a prefix of the batches `pending`, and `P` holds for these
-- contents. If `P` claims something about all settings, the prefix is therefore the same for all of them.
abbrev pub RestsAfterSome : LogDirectories → Disk → LogMap → List LogRecordValue → (LogMap → Type 0) → Type 0
RestsAfterSome home d m pending P = (k : ℕ) × (k ≤ length pending)
    × IsDurableAs (log_in home) d (taken m (take k pending)) × P (taken m (take k pending))

-- If opening the pipes of a log at rest fails, the log's files can be opened with the same contents.
abbrev pub RefusedOpensLeaveLogs : Type 0
RefusedOpensLeaveLogs = (home : LogDirectories) (m : LogMap) (append rewrite : FoundPipe) (error : Error)
    (old new : Disk) → FailsToOpenLog append rewrite error old new
    → RestsAsFound (sense home) m append rewrite old → IsRecoverableAs home new m []

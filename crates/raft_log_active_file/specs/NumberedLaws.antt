-- Laws of the numbered files (of the log's model) that correspond to a queue's files.
use Rattle.std.specs.Prelude.{◌≡◌, ℕ, ◌-◌, ◌≤◌, ◌⊎◌, List, [], ◌++◌}
use Rattle.raft_log_model_laws.specs.Item.{Record}
use Rattle.raft_log_machine_laws.specs.Files.{LogFile, FileQueue}
use Rattle.raft_log_machine_laws.specs.Files.FileEvent.{Grow, Sync, Rotate, Raise, Read}
use Rattle.raft_log_fs.specs.Disk.{Disk}
use Rattle.raft_log_fs.specs.Image.{IsSound}
use Rattle.raft_log_file_writer.specs.LawsChains.{Written}
use Rattle.raft_log_file_writer.specs.KeepsSynced.{kept_records}
use Rattle.raft_log_file_writer.specs.LogFormat.{Format, CanTellFormat}
use Rattle.raft_log_file_writer.specs.LogQueue.{LogFiles, HoldsLast, IsLeftover, rotated}
use Rattle.raft_log_active_file.specs.Queue.{with_more, synced}
use Rattle.raft_log_active_file.specs.Standing.{Names, Stands}
use Rattle.raft_log_active_file.specs.Bridge.{said, filed, IsFileQueue, ReadsAsFiles, StepsTo, GapsStay}

-- On a sound disk, a read of a queue after a stop without a CRC collision gives what the queue's numbered files allow
-- (`ReadsAsFiles`). The queue's last file must hold its records, or be as a stop left it.
abbrev pub ReadsAsNumbered : {R E V : Type 0} → (R → Record E V) → Format R → (List ℕ → Type 0) → Type 0
ReadsAsNumbered {R} {E} {V} says F own = CanTellFormat F → (base : Disk) (q : LogFiles R) (path : List ℕ)
    (id : ℕ) (N : Names) (d : Disk)
    → IsSound d → Stands F own base q path id (HoldsLast F q) N d ⊎ Stands F own base q path id
    (IsLeftover F q) N d
    → (low first : ℕ) (files : FileQueue E V) → IsFileQueue says F q low first d files
    → ReadsAsFiles says F q low first d files

-- Each change of the queue is a step of its numbered files.
-- - `elsewhere`: the numbered files are the same on any disk where numbers that had no file still have none.
-- - `grows`, `syncs`, `rotates`: records are written, or synced, or the queue rotates.
-- - `raises`: the live range begins at `to` now, and the files before `to` leave it.
-- - `reads_again`: an open reads the files from `to` on, some of which may be below the live range. The live range then
-- begins at `to`. The first `count` pending records are kept.
pub record NumberedSteps {R E V : Type 0} (says : R → Record E V) (F : Format R) (q : LogFiles R)
    (low first : ℕ)
    (d : Disk) (files : FileQueue E V) : Type 0 where
  pub elsewhere : (new : Disk) → GapsStay F q d new → IsFileQueue says F q low first new files
  pub grows : (ws : List (Written R)) → StepsTo says F (Grow (said says ws)) files
      (with_more ws q) low first d
  pub syncs : StepsTo says F Sync files (synced q) low first d
  pub rotates : (header stale : List ℕ) → StepsTo says F Rotate files (rotated header stale q) low first d
  pub raises : (to : ℕ) → first ≤ to → to ≤ q.last
      → (out stay : List (LogFile E V)) × (out ≡ filed says q.older first (to - first)) × StepsTo says F
      (Raise out stay) files q low to d
  pub reads_again : (to count : ℕ) (next : LogFiles R) → low ≤ to → to ≤ first → next.older ≡ q.older
      → next.last ≡ q.last
      → next.durable ≡ kept_records q.durable q.pending count → next.pending ≡ []
      → (below again : List (LogFile E V)) × (kept lost : List (Record E V)) ×
      (kept ++ lost ≡ files.pending)
      × StepsTo says F (Read below again kept) files next low to d

-- the numbered files of each queue on each disk take these steps
abbrev pub TakesNumberedSteps : {R E V : Type 0} → (R → Record E V) → Format R → Type 0
TakesNumberedSteps {R} {E} {V} says F = (q : LogFiles R) (low first : ℕ) (d : Disk) (files : FileQueue E V)
    → IsFileQueue says F q low first d files → NumberedSteps says F q low first d files

-- Laws of the files of a queue, in each state that they go through, also inside a call.
use Rattle.std.specs.Prelude.{◌≡◌, ℕ, ◌≤◌, List, length}
use Rattle.raft_log_fs.specs.Disk.{Disk}
use Rattle.raft_log_fs.specs.Image.{IsImage, IsSound}
use Rattle.raft_log_file_writer.specs.LogFormat.{Format, CanTellFormat}
use Rattle.raft_log_file_writer.specs.LogQueue.{LogFiles, HoldsLast, IsLeftover, kept_to, NoChanceInLast, KeepsQueue, IsReadable, Anything}
use Rattle.raft_log_fs.specs.Touching.{TouchesOnlyNames}
use Rattle.raft_log_active_file.specs.Standing.{Names, OwnsPaths, Stands}

-- A read of a queue after a stop without a CRC collision gives all records of the earlier files. Of the last file it
-- gives all durable records and a prefix of the pending ones.
-- - `holding`: this is true if the last file holds its records (`HoldsLast`).
-- - `left_over`: this is true if the last file is as an earlier stop left it (`IsLeftover`).
pub record FilesAreKept {R : Type 0} (F : Format R) (own : List ℕ → Type 0) : Type 0 where
  pub holding : (base : Disk) (q : LogFiles R) (path : List ℕ) (id : ℕ) (N : Names) (d : Disk)
      → Stands F own base q path id (HoldsLast F q) N d → KeepsQueue F q d
  pub left_over : (base : Disk) (q : LogFiles R) (path : List ℕ) (id : ℕ) (N : Names) (d : Disk)
      → Stands F own base q path id (IsLeftover F q) N d → KeepsQueue F q d

-- After any stop, a queue on a sound disk can be read from any file number on, if no file is missing from there on. The
-- last file may contain anything.
abbrev pub FilesAreReadable : {R : Type 0} → Format R → (List ℕ → Type 0) → Type 0
FilesAreReadable {R} F own = CanTellFormat F → (base : Disk) (q : LogFiles R) (path : List ℕ) (id : ℕ)
    (N : Names) (d : Disk)
    → IsSound d → Stands F own base q path id Anything N d → IsReadable F q d

-- A stop without a CRC collision leaves the queue on the disk `image`. The last file then has its durable records and,
-- for some `count`, its first `count` pending ones. All of them are durable now.
abbrev pub FilesRestart : {R : Type 0} → Format R → (List ℕ → Type 0) → Type 0
FilesRestart {R} F own = CanTellFormat F → (base : Disk) (q : LogFiles R) (path : List ℕ) (id : ℕ)
    (N : Names) (d image : Disk)
    → Stands F own base q path id (HoldsLast F q) N d → IsImage d image → NoChanceInLast F q d image
    → (count : ℕ) × (count ≤ length q.pending)
    × Stands F own image (kept_to count q) path id (IsLeftover F (kept_to count q)) N image

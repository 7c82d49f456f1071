-- Syncs, rotations, and losses of files below the live range are quiet events. This file says how quiet events change
-- the numbered files of one queue.
use Rattle.std.specs.Prelude.{ℕ}
use Rattle.raft_log_model_laws.specs.Item.{Record}
use Rattle.raft_log_machine_laws.specs.Files.{FileQueue}
use Rattle.raft_log_fs.specs.Disk.{Disk}
use Rattle.raft_log_file_writer.specs.LogFormat.{Format}
use Rattle.raft_log_file_writer.specs.LogQueue.{LogFiles}
use Rattle.raft_log_active_file.specs.Bridge.{IsFileQueue}
use Rattle.raft_log_machine_laws.specs.Moves.{Moved}

-- `q` is a queue on the disk `old`, and `p` the same queue later, on the disk `new`. Quiet events change the numbered
-- files of `q` into those of `p`.
abbrev pub QuietTo : {R E V : Type 0} → (R → Record E V) → Format R → ℕ → LogFiles R → Disk → LogFiles R
    → Disk → Type 0
QuietTo {R} {E} {V} says F first q old p new =
    (from : ℕ) (f : FileQueue E V) → IsFileQueue says F q from first old f
    → (a : Moved from f) × IsFileQueue says F p a.from first new a.queue

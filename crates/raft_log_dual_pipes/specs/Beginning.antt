-- Logs whose two queues have just begun, disks without log files, and the log that a stop leaves.
use Rattle.std.specs.Prelude.{◌≡◌, ℕ, ◌<◌, List, []}
use Rattle.raft_log_machine_laws.specs.Fresh.{nothing_stands}
use Rattle.raft_log_fs.specs.Disk.{Disk}
use Rattle.raft_log_file_writer.specs.LogFormat.{Format}
use Rattle.raft_log_file_writer.specs.LogQueue.{Past, IsAbsent, kept_to}
use Rattle.raft_log_active_file.specs.Queue.{with_room}
use Rattle.raft_log_active_file.specs.Beginning.{fresh_queue}
use Rattle.raft_log_machine_laws.specs.Model.{no_files}
use Rattle.raft_log_machine_laws.specs.Log.{IsLogOf}
use Rattle.raft_log_dual_pipes.specs.Queues.{TwoQueues}
use Rattle.raft_log_dual_pipes.specs.State.{Spanned, LogOnDisk, Ties}
use Rattle.raft_log_dual_pipes.specs.Crash.{readings_of}
use Rattle.raft_log_dual_pipes.specs.Turning.{in_span}

-- A queue that has just begun: its live range consists of file 1, with this header and no record. `room` zeros are
-- allocated after the header. `older` would be the earlier files, of which there are none.
abbrev pub begun_queue : {R : Type 0} → (ℕ → Past R) → List ℕ → ℕ → Spanned R
begun_queue older header room = record { first = 1; files = with_room room (fresh_queue older header) }

-- if both queues have just begun, and no file has the number 0, the log's numbered files are one empty file 1 for each
-- queue
abbrev pub BegunLogIsEmpty : {R E V : Type 0} → TwoQueues R E V → Type 0
BegunLogIsEmpty {R} log = (append rewrite : Spanned R) (d : Disk)
    → ((older : ℕ → Past R) × (header : List ℕ) × (room : ℕ) × (append ≡ begun_queue older header room))
    → ((older : ℕ → Past R) × (header : List ℕ) × (room : ℕ) × (rewrite ≡ begun_queue older header room))
    → IsAbsent log.append.format 0 d → IsAbsent log.rewrite.format 0 d
    → Ties log (record { append = append; rewrite = rewrite; disk = d }) no_files

-- no number of the queue has a file
abbrev pub HasNoFile : {R : Type 0} → Format R → Disk → Type 0
HasNoFile F d = (m : ℕ) → m < F.limit → IsAbsent F m d

-- If a disk has no numbered file of either queue, a log on it has the empty map as its contents, and no batch is
-- pending.
abbrev pub NoFilesAreNothing : {R E V : Type 0} → TwoQueues R E V → Type 0
NoFilesAreNothing {R} log = (s : LogOnDisk R) → HasNoFile log.append.format s.disk
    → HasNoFile log.rewrite.format s.disk → IsLogOf (readings_of log) s nothing_stands []

-- The log `s` after a stop that left the disk `image`. It has the durable records of both queues, the first `append`
-- pending records of Append, and the first `rewrite` pending records of Rewrite. All of these are durable now.
abbrev pub stopped_log : {R : Type 0} → LogOnDisk R → ℕ → ℕ → Disk → LogOnDisk R
stopped_log s append rewrite image = record {
  append = in_span s.append (kept_to append s.append.files);
  rewrite = in_span s.rewrite (kept_to rewrite s.rewrite.files);
  disk = image;
}

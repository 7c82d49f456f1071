-- How a queue of files begins on a disk that has none of its files. `F` is the format of the files, and `own` says
-- which paths are the queue's.
use Rattle.std.specs.Prelude.{ℕ, ◌<◌, List, []}
use Rattle.raft_log_model_laws.specs.Item.{Record}
use Rattle.raft_log_machine_laws.specs.Files.{fresh_files}
use Rattle.raft_log_fs.specs.Disk.{Disk}
use Rattle.raft_log_file_writer.specs.LogFormat.{Format}
use Rattle.raft_log_file_writer.specs.LogQueue.{Past, LogFiles, IsAbsent}
use Rattle.raft_log_fs.specs.Touching.{TouchesOnlyNames}
use Rattle.raft_log_active_file.specs.Queue.{with_room}
use Rattle.raft_log_active_file.specs.Standing.{IsPlace}
use Rattle.raft_log_active_file.specs.Bridge.{IsFileQueue}

-- The queue may begin on the disk `d`: no path of a number names a file, and a file can be created at each such path.
-- Since the disk `base`, only the queue's own paths and their files have changed.
pub record IsFresh {R : Type 0} (F : Format R) (own : List ℕ → Type 0) (base d : Disk) : Type 0 where
  pub none : (m : ℕ) → m < F.limit → IsAbsent F m d
  pub places : (m : ℕ) (path : List ℕ) → m < F.limit → F.IsPath m path → IsPlace path d
  pub others : TouchesOnlyNames own base d

-- A queue whose last file is file 1, with this header and no record. `older` gives the contents of earlier files. It
-- doesn't matter, as such a queue has no earlier file.
abbrev pub fresh_queue : {R : Type 0} → (ℕ → Past R) → List ℕ → LogFiles R
fresh_queue older header = record {
  older = older;
  last = 1;
  header = header;
  stale = [];
  durable = [];
  pending = [];
}

-- If there is no file 0, a queue that has just begun (`fresh_queue`) corresponds to the model's files of a new queue
-- (`fresh_files`). `room` zeros may be allocated in file 1.
abbrev pub BeginsNumbered : {R E V : Type 0} → (R → Record E V) → Format R → Type 0
BeginsNumbered {R} says F = (older : ℕ → Past R) (header : List ℕ) (room : ℕ) (d : Disk) → IsAbsent F 0 d
    → IsFileQueue says F (with_room room (fresh_queue older header)) 1 1 d fresh_files

-- The states of a queue's last file. Each of them says that the file is at most `capacity` bytes long, the capacity of
-- the file's writer.
use Rattle.std.specs.Prelude.{ℕ, ◌≤◌, List, length}
use Rattle.raft_log_fs.specs.Disk.{File}
use Rattle.raft_log_file_writer.specs.LawsChains.{Written}
use Rattle.raft_log_file_writer.specs.LogFormat.{Format}
use Rattle.raft_log_file_writer.specs.LogQueue.{LogFiles, IsPast}
use Rattle.raft_log_active_file.specs.Queue.{finished, with_room}
use Rattle.raft_log_active_file.specs.States.{IsActive, IsFront, IsCut, IsNew, IsHeaded}

-- the file is active: it has its header and its records, then stale bytes, and is at most `capacity` bytes long
pub record IsActiveTo {R : Type 0} (F : Format R) (capacity : ℕ) (q : LogFiles R)
    (file : File) : Type 0 where
  pub active : IsActive F q file
  pub ends : length file.content ≤ capacity

-- The file is as a failed write left it: it begins with its header and its records, and is at most `capacity` bytes
-- long. `more` are the records of that write.
pub record IsFrontTo {R : Type 0} (F : Format R) (capacity : ℕ) (q : LogFiles R) (more : List (Written R))
    (file : File) : Type 0 where
  pub front : IsFront F q more file
  pub ends : length file.content ≤ capacity

-- The file was truncated after a failed write of the records `more`: it has exactly its header and its earlier records.
-- It is at most `capacity` bytes long.
pub record IsCutTo {R : Type 0} (F : Format R) (capacity : ℕ) (q : LogFiles R) (more : List (Written R))
    (file : File) : Type 0 where
  pub cut : IsCut F q more file
  pub ends : length file.content ≤ capacity

-- the file is finished: it has exactly its header and its records, all synced, and is at most `capacity` bytes long
pub record IsPastTo {R : Type 0} (F : Format R) (capacity : ℕ) (q : LogFiles R) (file : File) : Type 0 where
  pub past : IsPast F q.last (finished q) file
  pub ends : length file.content ≤ capacity

-- the file has its number but not its header yet, and is at most `capacity` bytes long
pub record IsNewTo {R : Type 0} (F : Format R) (capacity : ℕ) (q : LogFiles R) (file : File) : Type 0 where
  pub new : IsNew F q file
  pub ends : length file.content ≤ capacity

-- the file has its header but no record yet, and is at most `capacity` bytes long
pub record IsHeadedTo {R : Type 0} (F : Format R) (capacity : ℕ) (q : LogFiles R)
    (file : File) : Type 0 where
  pub headed : IsHeaded F q file
  pub ends : length file.content ≤ capacity

-- `P` holds for the queue's last file, after some zeros (maybe none) were allocated in it
abbrev pub HasRoom : {R : Type 0} → (LogFiles R → File → Type 0) → LogFiles R → File → Type 0
HasRoom P q file = (room : ℕ) × P (with_room room q) file

-- What a task's result `Sound` says about the log on the disk, and what it means if an inspection found no fault.
use Rattle.std.specs.Prelude.{◌≡◌, ℕ, List, []}
use Rattle.raft_log_record_base.specs.declared.pipe_log.LogQueue.{LogQueue}
use Rattle.raft_log_record_base.specs.declared.pipe_log.LogQueue.TheVariants as queues
use Rattle.raft_log_fs.specs.Disk.{Disk}
use Rattle.raft_log_file_settings.specs.Settings.{directories_of}
use Rattle.raft_log_replay.specs.Machines.{Batch}
use Rattle.raft_log_inspection.specs.Intact.{IsClean, IsIntactQueue}
use Rattle.raft_log_offline.specs.Runs.{HasNoHole, runs_of}
use Rattle.raft_log_operator.specs.Tasks.{kept_settings}
use Rattle.raft_log_command_line.specs.declared.command.Task.{Task}
use Rattle.raft_log_command_line.specs.declared.command.Task.TheVariants.{Check, Stat}
use Rattle.raft_log_operator.specs.declared.inspection.LogFaults.{LogFaults}
use Rattle.raft_log_operator.specs.declared.inspection.QueueFaults.{QueueFaults}
use Rattle.raft_log_command_line.specs.declared.place.Place.{Place}

-- the log's directories, the main one first
abbrev pub directories_in : Place → List (List ℕ)
directories_in place = directories_of (kept_settings place)

-- in both queues of the log, the file numbers have no gap and no file is damaged
abbrev pub HasIntactFiles : Place → Disk → Type 0
HasIntactFiles place d =
    (queue : LogQueue) → (batches : List Batch) × IsIntactQueue queue (directories_in place) d batches

-- the entries that these batches add leave no hole in the indexes of any group
abbrev pub HaveNoHole : List Batch → Type 0
HaveNoHole batches = (group : ℕ) → HasNoHole (runs_of group batches)

-- in both queues of the log, the file numbers have no gap, no file is damaged, and the entries leave no hole in any
-- group
abbrev pub IsIntactLog : Place → Disk → Type 0
IsIntactLog place d = (queue : LogQueue) → (batches : List Batch)
    × IsIntactQueue queue (directories_in place) d batches × HaveNoHole batches

-- What the log on disk `d` is if this task returns `Sound`. After `Check`, it is intact. After `Stat`, its files are
-- intact. Other tasks say nothing.
abbrev pub IsSoundFor : Place → Task → Disk → Type 0
IsSoundFor place Check d = IsIntactLog place d
IsSoundFor place Stat d = HasIntactFiles place d
IsSoundFor place _ d = Unit {0}

-- A queue was inspected. If no fault was found in its files, they are intact. If no hole was found, the entries in its
-- batches leave none.
pub record InspectsOne (queue : LogQueue) (directories : List (List ℕ)) (d : Disk) (faults : QueueFaults)
    : Type 0 where
  pub batches : List Batch
  pub intact : IsClean faults.files → IsIntactQueue queue directories d batches
  pub whole : faults.holes.items ≡ [] → HaveNoHole batches

-- both queues of the log were inspected, as `InspectsOne` says
pub record InspectsLog (place : Place) (d : Disk) (faults : LogFaults) : Type 0 where
  pub append : InspectsOne queues.Append (directories_in place) d faults.append
  pub rewrite : InspectsOne queues.Rewrite (directories_in place) d faults.rewrite

-- no fault was found in the files of either queue
abbrev pub HasCleanFiles : LogFaults → Type 0
HasCleanFiles faults = IsClean faults.append.files × IsClean faults.rewrite.files

-- no fault was found in the files of either queue, and no hole in its entries
abbrev pub AreNone : LogFaults → Type 0
AreNone faults = HasCleanFiles faults × (faults.append.holes.items ≡ []) × (faults.rewrite.holes.items ≡ [])

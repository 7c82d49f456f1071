-- If calls leave the files of both queues unchanged, a log at rest stays at rest. A log that could be opened can still
-- be opened.
use Rattle.std.specs.Prelude.{◌≡◌, ℕ, ◌<◌, Some, List}
use Rattle.raft_log_model_laws.specs.Item.{Record}
use Rattle.raft_log_model_laws.specs.Groups.{Map}
use Rattle.raft_log_fs.specs.Disk.{Disk}
use Rattle.raft_log_file_writer.specs.LogFormat.{Format}
use Rattle.raft_log_active_file.specs.Standing.{IsPlace}
use Rattle.raft_log_dual_pipes.specs.Queues.{AreTwoQueues, TwoQueues}
use Rattle.raft_log_dual_pipes.specs.OpenOrClosed.{none_open}
use Rattle.raft_log_dual_pipes.specs.OnDisk.{LogLiesOn, IsDurableAs}

-- The files of a queue are unchanged. Each path that a file of the queue can have names the same file as before, or
-- still names none. Each of these files has the same content, synced content and changes. A file can still be created
-- at each path where one could be created before.
pub record KeepsNumbered {R : Type 0} (F : Format R) (old new : Disk) : Type 0 where
  pub names : (m : ℕ) (path : List ℕ) → m < F.limit → F.IsPath m path → new.names path ≡ old.names path
  pub files : (m : ℕ) (path : List ℕ) (id : ℕ) → m < F.limit → F.IsPath m path → old.names path ≡ Some id
      → new.files id ≡ old.files id
  pub places : (m : ℕ) (path : List ℕ) → m < F.limit → F.IsPath m path → IsPlace path old → IsPlace path new

-- the files of both queues are unchanged, as `KeepsNumbered` says
pub record KeepsBothQueues {R E V : Type 0} (log : TwoQueues R E V) (old new : Disk) : Type 0 where
  pub append : KeepsNumbered log.append.format old new
  pub rewrite : KeepsNumbered log.rewrite.format old new

-- a log that was at rest on disk `d` is at rest on disk `new`, with the same files, records and contents
abbrev pub RestsStill : {R E V : Type 0} → (log : TwoQueues R E V) → (d : Disk) → (m : Map E V)
    → IsDurableAs log d m → Disk → Type 0
RestsStill log d m h new = (t : IsDurableAs log new m) × (t.state ≡ record h.state { disk = new })

-- The log on disk `new` is like the one on disk `old`. If it was at rest, it still is, with the same contents. If its
-- files could be opened, they still can, with the same contents and the same pending batches.
pub record KeptLogStays {R E V : Type 0} (log : TwoQueues R E V) (old new : Disk) : Type 0 where
  pub rests : (m : Map E V) (h : IsDurableAs log old m) → RestsStill log old m h new
  pub lies : (m : Map E V) (pending : List (Record E V)) → LogLiesOn log none_open old m pending
      → LogLiesOn log none_open new m pending

-- If the files of both queues are unchanged, a log at rest stays at rest, and a log that could be opened still can be.
abbrev pub KeptLogsStay : {R E V : Type 0} → TwoQueues R E V → Type 0
KeptLogsStay log = AreTwoQueues log → (old new : Disk) → KeepsBothQueues log old new → KeptLogStays log old new

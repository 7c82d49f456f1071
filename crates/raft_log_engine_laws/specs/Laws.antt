-- What each call on an engine's pipes and tables does to the contents of its log.
use Rattle.std.specs.Prelude.{◌≡◌, ℕ, List, [], ◌∷◌, ◌++◌}
use Rattle.raft_log_model_laws.specs.Groups.{taken}
use Rattle.raft_log_fs.specs.Causes.{Fails}
use Rattle.raft_log_fs.specs.Disk.{Disk}
use Rattle.raft_log_record_base.specs.declared.errors.Error.{Error}
use Rattle.raft_log_record_base.specs.declared.pipe_log.FileBlockHandle.{FileBlockHandle}
use Rattle.raft_log_record_frames.specs.Meaning.{tagged_items}
use Rattle.raft_log_record_batches.specs.Batch.{Batch}
use Rattle.raft_log_block_cache.specs.Signing.{SaysItself, signed_for}
use Rattle.raft_log_machine_laws.specs.Calls.Which.{InAppend}
use Rattle.raft_log_block_cache.specs.raft_log_memtables.specs.Batch.{MayFollowAll, all_shown}
use Rattle.raft_log_block_cache.specs.raft_log_dual_pipes.specs.OpenOrClosed.{both_open}
use Rattle.raft_log_block_cache.specs.raft_log_dual_pipes.specs.OnDisk.{LogLiesOn}
use Rattle.raft_log_block_cache.specs.raft_log_dual_pipes.specs.ClosingCalls.{ClosesLog, ClosesSettled}
use Rattle.raft_log_block_cache.specs.raft_log_dual_pipes.specs.Pipes.{LogPipes, LogRecordValue, files_of}
use Rattle.raft_log_block_cache.specs.raft_log_dual_pipes.specs.Calls.{AppendsTo, FailsToAppendTo, FailsToSyncQueue, SyncsQueue}
use Rattle.raft_log_engine_laws.specs.EngineState.{LogDirectories, IsLaidOut, IsWellMarked, KeepsOrForgets, LogMap, EngineState, log_in, said_of}
use Rattle.raft_log_engine_laws.specs.Holding.{EndsAt, Represents, IsRecoverableAs, RunsAs}
use Rattle.raft_log_engine_laws.specs.Writing.{Leaves, items_at}

-- The batch may be written: it isn't empty, its marks aren't broken, and its record is read back with its contents. Its
-- entries leave no hole after what the tables show, and their indexes are below 2 ^ 64 - 1.
pub record MayBeWritten (e : EngineState) (b : Batch) : Type 0 where
  pub some : b.items ≡ [] → ⊥
  pub marked : IsWellMarked b
  pub follows : MayFollowAll e.tables (tagged_items (λ e. e) b.items)
  pub says : SaysItself (signed_for b) b
  pub laid : IsLaidOut b

-- Suppose the batch `b` may be written, the pipes wrote it, and the tables applied it under the number of its file.
-- Then `b` is the last batch of the log, and joins the pending ones. A prefix of these may be durable already.
abbrev pub BatchesAreWritten : Type 0
BatchesAreWritten = (home : LogDirectories) (e t : EngineState) (b : Batch) (block : FileBlockHandle) (m : LogMap)
    (pending : List LogRecordValue) → Represents home e m pending → MayBeWritten e b
    → AppendsTo InAppend (signed_for b) block e.pipes t.pipes
    → t.tables ≡ all_shown block.id.seq e.tables (items_at block b) → KeepsOrForgets e t
    → EndsAt home t m (pending ++ said_of b ∷ [])

-- Suppose the batch `b` may be written, but the pipes failed to append it, and the tables stayed the same. Unless the
-- engine has failed, the log is without the batch. A failed engine's files can be opened, with the batch or without it.
-- `Leaves` says what else is true after each error.
abbrev pub RefusalsLeaveNoTrace : Type 0
RefusalsLeaveNoTrace = (home : LogDirectories) (e t : EngineState) (b : Batch) (m : LogMap) (pending : List LogRecordValue)
    (error : Error) → Represents home e m pending → MayBeWritten e b → t.tables ≡ e.tables → KeepsOrForgets e t
    → FailsToAppendTo InAppend (signed_for b) error e.pipes t.pipes → Leaves home b m pending e t error

-- after a sync of Append, all pending batches are durable
abbrev pub SyncsAreHeld : Type 0
SyncsAreHeld = (home : LogDirectories) (e t : EngineState) (m : LogMap) (pending : List LogRecordValue) → Represents home e m pending
    → t.tables ≡ e.tables → KeepsOrForgets e t → SyncsQueue InAppend e.pipes t.pipes
    → Represents home t (taken m pending) []

-- After a failed sync of Append, the log's files can be opened, with the same contents and batches. A prefix of the
-- batches may be durable. A file system call has failed.
abbrev pub FailuresLeaveLogs : Type 0
FailuresLeaveLogs = (home : LogDirectories) (v w : LogPipes) (m : LogMap) (pending : List LogRecordValue)
    → RunsAs home v m pending → FailsToSyncQueue InAppend v w
    → Fails v.disk w.disk × IsRecoverableAs home w.disk m pending

-- After a close, even a failed one, the log's files can be opened, with the same contents and batches. A prefix of the
-- batches may be durable.
abbrev pub ClosedEnginesAreLeft : Type 0
ClosedEnginesAreLeft = (home : LogDirectories) (e : EngineState) (m : LogMap) (pending : List LogRecordValue) (d : Disk)
    → Represents home e m pending → ClosesLog e.pipes d → IsRecoverableAs home d m pending

-- After a close that left all records of both queues synced, the log's files can be opened, with all batches durable
-- and none pending.
abbrev pub ClosedEnginesAreDurable : Type 0
ClosedEnginesAreDurable = (home : LogDirectories) (e : EngineState) (m : LogMap) (pending : List LogRecordValue) (d : Disk)
    → Represents home e m pending → ClosesSettled e.pipes d → IsRecoverableAs home d (taken m pending) []

-- the log's files on the disk of a running engine hold the contents `m` and then the pending batches
abbrev pub EnginesLieOnDisks : Type 0
EnginesLieOnDisks = (home : LogDirectories) (e : EngineState) (m : LogMap) (pending : List LogRecordValue) → Represents home e m pending
    → LogLiesOn (log_in home) (both_open (files_of e.pipes)) e.pipes.disk m pending

-- Why a part of a purge fails. A comment that says *the error says why* means this: if no batch was pending before the
-- part, the error has one of these reasons.
use Rattle.std.specs.Prelude.{◌≡◌, ◌⊎◌, ℕ, false, List, [], Some}
use Rattle.raft_log_model_laws.specs.Meaning.Slot.{Key}
use Rattle.raft_log_model_laws.specs.Meaning.Content.{Value}
use Rattle.raft_log_fs.specs.Causes.{Fails, IsLater}
use Rattle.raft_log_record_base.specs.declared.errors.Error.{Error}
use Rattle.raft_log_record_base.specs.declared.errors.Error.TheVariants as errors
use Rattle.raft_log_record_frames.specs.Marking.{mark_key}
use Rattle.raft_log_record_batches.specs.Batch.{Batch}
use Rattle.raft_log_block_cache.specs.Signing.{signed_for}
use Rattle.raft_log_machine_laws.specs.Calls.{Which}
use Rattle.raft_log_machine_laws.specs.Calls.Which.{InRewrite}
use Rattle.raft_log_dual_pipes.specs.PipeCalls.{PipeFailsToAppend}
use Rattle.raft_log_dual_pipes.specs.Pipes.{LogPipes, is_failed}
use Rattle.raft_log_dual_pipes.specs.Numbers.{HasLastNumber}
use Rattle.raft_log_engine_laws.specs.EngineState.{LogDirectories, LogMap, EngineState}
use Rattle.raft_log_engine_laws.specs.Holding.{Represents}
use Rattle.raft_log_engine_laws.specs.Fetching.{IsUntold}
use Rattle.raft_log_purge_copy.specs.Entries.{as_bytes}
use Rattle.raft_log_purge_copy.specs.Lengths.{HasLongGroup, OwesTooMuch}

-- the active file of one of the queues has the last number that a file name can have
abbrev pub EndsItsNumbers : LogPipes → Type 0
EndsItsNumbers v = (which : Which) × HasLastNumber which v

-- the engine's log has the contents `m`, and a read of one of its entries fails with `error`
abbrev pub IsOneUnread : LogDirectories → LogMap → EngineState → Error → Type 0
IsOneUnread home m t error =
    Represents home t m [] × (g : ℕ) × (i : ℕ) × IsUntold as_bytes g i t m error

-- In the contents `m`, the key of marks has a value in group 0. If that were written, it would be a mark of an atomic
-- group.
abbrev pub HasMarkValue : LogMap → Type 0
HasMarkValue m = (value : List ℕ) × (m 0 (Key mark_key) ≡ Some (Value value))

-- The last step from `s` to `t` was an append of a batch's record to Rewrite, and it failed with `error`. After `Io` or
-- `TryAgain`, what was written of the record was truncated away.
-- - `Io` has the error kind of the file system.
-- - `TryAgain`: space was lacking, and the pipe rotated.
pub record RecordIsRefused (error : Error) (s t : EngineState) : Type 0 where
  pub before : LogPipes
  pub batch : Batch
  pub earlier : IsLater s.pipes.disk before.disk
  pub alive : is_failed before ≡ false
  pub call : PipeFailsToAppend InRewrite (signed_for batch) error before t.pipes

-- a file system call failed, and so a record wasn't written
abbrev pub FailsAtARecord : Error → EngineState → EngineState → Type 0
FailsAtARecord error s t = Fails s.pipes.disk t.pipes.disk × RecordIsRefused error s t

-- Why a part of a purge failed, if the log's contents are `m`:
-- - `Io`: a record wasn't written, or an entry can't be read
-- - `TryAgain`: a record wasn't written
-- - `Failed`: a file system call failed
-- - `NumberRange`: a queue's active file has the last number that a file name can have
-- - `Full`: a record of what one group has would be too long
-- - `InvalidArgument`: group 0 has a value under the key of marks; a copy of it would be a mark of an atomic group
-- - `Memory`: memory ran out
-- No other error occurs.
abbrev pub HasReason : LogDirectories → LogMap → Error → EngineState → EngineState → Type 0
HasReason home m (errors.Io kind) s t =
    FailsAtARecord (errors.Io kind) s t ⊎ IsOneUnread home m t (errors.Io kind)
HasReason home m (errors.TryAgain text) s t = FailsAtARecord (errors.TryAgain text) s t
HasReason home m errors.Failed s t = Fails s.pipes.disk t.pipes.disk
HasReason home m errors.NumberRange s t = EndsItsNumbers t.pipes
HasReason home m errors.Full s t = HasLongGroup m
HasReason home m (errors.InvalidArgument text) s t = HasMarkValue m
HasReason home m errors.Memory s t = Unit {0}
HasReason home m _ s t = ⊥

-- if the log had the contents `m` in `s`, with no batch pending, `error` has one of the reasons in `HasReason`
abbrev pub GivesReason : Error → EngineState → EngineState → Type 0
GivesReason error s t = (home : LogDirectories) (m : LogMap) → Represents home s m [] → HasReason home m error s t

-- Why a purge that writes the owed tombstones failed. It has a reason that any part may have, or the record of these
-- tombstones would be too long.
abbrev pub HasPurgeReason : LogDirectories → LogMap → Error → EngineState → EngineState → Type 0
HasPurgeReason home m error s t = HasReason home m error s t ⊎ ((error ≡ errors.Full) × OwesTooMuch s.tables)

-- Why rotating a queue, or taking its files out of the live range, failed. `Failed`: a file system call failed.
-- `NumberRange`: a queue's active file has the last number that a file name can have. `Memory`: memory ran out.
abbrev pub HasFileReason : Error → EngineState → EngineState → Type 0
HasFileReason errors.Failed s t = Fails s.pipes.disk t.pipes.disk
HasFileReason errors.NumberRange s t = EndsItsNumbers t.pipes
HasFileReason errors.Memory s t = Unit {0}
HasFileReason _ s t = ⊥

-- A purge went from `s` to `t`, and then a part of it failed, which left `u`. The reason of this part is also a reason
-- of the whole purge: failures on a disk are counted, and no step takes one back.
abbrev pub LaterReasonsAreReasons : Type 0
LaterReasonsAreReasons = (home : LogDirectories) (m : LogMap) (error : Error) (s t u : EngineState)
    → IsLater s.pipes.disk t.pipes.disk → HasReason home m error t u → HasReason home m error s u

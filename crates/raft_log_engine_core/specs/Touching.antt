-- What a write does to the files of a log: `v` are the pipes before, `w` after. Also what it means that a call leaves
-- the purge's thresholds and counts unchanged.
use Rattle.std.specs.Prelude.{◌≡◌, ◌⊎◌, ℕ, Bool, true, false, List, []}
use Rattle.raft_log_record_base.specs.declared.errors.Error.{Error}
use Rattle.raft_log_record_base.specs.declared.errors.Error.TheVariants as errors
use Rattle.raft_log_record_base.specs.declared.pipe_log.FileBlockHandle.{FileBlockHandle}
use Rattle.raft_log_record_base.specs.declared.pipe_log.LogFileContext.{LogFileContext}
use Rattle.raft_log_machine_laws.specs.Calls.Which.{InAppend}
use Rattle.raft_log_dual_pipes.specs.Calls.{FailsToSyncQueue, SyncsQueue}
use Rattle.raft_log_dual_pipes.specs.PipeCalls.{PipeAppends, PipeFailsToAppend}
use Rattle.raft_log_dual_pipes.specs.Pipes.{LogPipes, is_failed}
use Rattle.raft_log_record_batches.specs.Batch.{Batch}
use Rattle.raft_log_block_cache.specs.Signing.{signed_for}
use Rattle.raft_log_block_cache.specs.raft_log_file_pipe.specs.Appending.{SaysTryAgain}
use Rattle.raft_log_purge.specs.raft_log_engine_laws.specs.Trying.{RefusesAt, WritesAt}
use Rattle.raft_log_engine_core.specs.declared.engine.LogEngine.{LogEngine}

-- The engine `new` has the same purge thresholds as `old`, and the same counts for later purges. The same compaction of
-- Rewrite is under way, or none.
pub record StaysPurged {P : Type 0} (old new : LogEngine P) : Type 0 where
  pub thresholds : new.thresholds ≡ old.thresholds
  pub counts : new.counts ≡ old.counts
  pub compacting : new.compacting ≡ old.compacting

-- Append's pipe tried to append a record, and the call returned `TryAgain`, for lack of space. The pipe has rotated to
-- a new file, and still takes calls.
abbrev pub FindsNoSpace : (LogFileContext → List ℕ) → LogPipes → LogPipes → Type 0
FindsNoSpace signed v w = (error : Error) × SaysTryAgain error × (is_failed w ≡ false)
    × PipeFailsToAppend InAppend signed error v w

-- Append's pipe appended a record at `block`: at the first try; or at the second, after the first found no space
abbrev pub PipeTakes : (LogFileContext → List ℕ) → FileBlockHandle → LogPipes → LogPipes → Type 0
PipeTakes signed block v w = PipeAppends InAppend signed block v w
    ⊎ ((mid : LogPipes) × FindsNoSpace signed v mid × PipeAppends InAppend signed block mid w)

-- Append's pipe failed to append a record, in one of two ways:
-- - The first try failed with an error other than `TryAgain`.
-- - The first try found no space, and the second try failed, with any error.
-- `PipeFailsToAppend` says what each error means for the files.
abbrev pub PipeRefuses : (LogFileContext → List ℕ) → Error → LogPipes → LogPipes → Type 0
PipeRefuses signed error v w = ((SaysTryAgain error → ⊥) × PipeFailsToAppend InAppend signed error v w)
    ⊎ ((mid : LogPipes) × FindsNoSpace signed v mid × PipeFailsToAppend InAppend signed error mid w)

-- The record of batch `b` was written to the queue Append, at the first try or the second. The pipe may have rotated
-- before either try. If the first try found no space, its bytes were truncated away. Nothing else was done to the
-- files.
abbrev pub WritesRecord : Batch → LogPipes → LogPipes → Type 0
WritesRecord b v w =
    (block : FileBlockHandle) × WritesAt (signed_for b) block v w × PipeTakes (signed_for b) block v w

-- Append's pipe failed to append the record of batch `b`, at the first try or the second
abbrev pub RefusesBatch : Batch → Error → LogPipes → LogPipes → Type 0
RefusesBatch b error v w = RefusesAt (signed_for b) error v w × PipeRefuses (signed_for b) error v w

-- the error is neither `Io` nor `TryAgain`, which say that a write was tried and failed
abbrev pub TellsNoWrite : Error → Type 0
TellsNoWrite (errors.Io kind) = ⊥
TellsNoWrite (errors.TryAgain text) = ⊥
TellsNoWrite _ = Unit {0}

-- The record of batch `b` wasn't appended. Either the files are unchanged, and the error is neither `Io` nor
-- `TryAgain`; or Append's pipe tried to append the record and failed.
abbrev pub LeavesRecord : Batch → Error → LogPipes → LogPipes → Type 0
LeavesRecord b error v w = (TellsNoWrite error × (w ≡ v)) ⊎ RefusesBatch b error v w

-- `true`: Append was synced; `false`: the files are unchanged
abbrev pub SyncsIf : Bool → LogPipes → LogPipes → Type 0
SyncsIf true v w = SyncsQueue InAppend v w
SyncsIf false v w = w ≡ v

-- What a successful write of batch `b` does to the files. It appends the batch's record once, or nothing for an empty
-- batch. Then it syncs Append, if `sync` is true.
abbrev pub WritesFiles : Batch → Bool → LogPipes → LogPipes → Type 0
WritesFiles b sync v w = ((b.items ≡ []) × SyncsIf sync v w)
    ⊎ ((mid : LogPipes) × WritesRecord b v mid × SyncsIf sync mid w)

-- What a failed write of batch `b` does to the files. Either the record wasn't appended. Or a sync was requested and
-- failed; before it, the record was appended, or nothing for an empty batch.
abbrev pub LeavesFiles : Batch → Bool → Error → LogPipes → LogPipes → Type 0
LeavesFiles b sync error v w = LeavesRecord b error v w
    ⊎ ((sync ≡ true) × ((mid : LogPipes) × (((b.items ≡ []) × (mid ≡ v)) ⊎ WritesRecord b v mid)
    × FailsToSyncQueue InAppend mid w))

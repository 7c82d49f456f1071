-- A batch's record is written to Rewrite, after a sync if one is due.
use Rattle.std.specs.Prelude.{◌≡◌, ◌⊎◌, ◌↔◌, IsTrue, false, List}
use Rattle.raft_log_fs.specs.Causes.{IsLater}
use Rattle.raft_log_record_base.specs.declared.errors.Error.{Error}
use Rattle.raft_log_record_base.specs.declared.errors.Error.TheVariants as errors
use Rattle.raft_log_record_base.specs.declared.pipe_log.FileBlockHandle.{FileBlockHandle}
use Rattle.raft_log_record_items.specs.declared.item.LogItem.{LogItem}
use Rattle.raft_log_record_items.specs.Placed.{written}
use Rattle.raft_log_record_batches.specs.Batch.{Batch, block_place}
use Rattle.raft_log_block_cache.specs.Signing.{SaysItself, signed_for}
use Rattle.raft_log_machine_laws.specs.Calls.Which.{InRewrite}
use Rattle.raft_log_dual_pipes.specs.Pipes.{LogPipes, is_failed}
use Rattle.raft_log_dual_pipes.specs.Calls.{AppendsTo, FailsToAppendTo, FailsToSyncQueue}
use Rattle.raft_log_dual_pipes.specs.Numbers.{EndsNumbersAt}
use Rattle.raft_log_dual_pipes.specs.PipeCalls.{PipeFailsToAppend}
use Rattle.raft_log_engine_laws.specs.EngineState.{IsLaidOut}
use Rattle.raft_log_purge_copy.specs.Refusals.{IsUnrecorded}
use Rattle.raft_log_purge_copy.specs.Syncing.{MaySync}

-- The batch's record was written to Rewrite at `block`, perhaps after a sync; the pipes were `v` before, and are `w`
-- now. `items` are the batch's items with the locations that their entries have in `block`.
pub record WritesToRewrite (b : Batch) (block : FileBlockHandle) (items : List LogItem) (v w : LogPipes)
    : Type 0 where
  pub synced : LogPipes
  pub syncs : MaySync v synced
  pub says : SaysItself (signed_for b) b
  pub laid : IsLaidOut b
  pub call : AppendsTo InRewrite (signed_for b) block synced w
  pub there : items ≡ written (block_place block b.entries) b.items
  pub alive : is_failed w ≡ false
  pub later : IsLater v.disk w.disk

-- an append of the batch's record to Rewrite failed, perhaps after a sync
pub record RefusesRecord (b : Batch) (error : Error) (v w : LogPipes) : Type 0 where
  pub synced : LogPipes
  pub syncs : MaySync v synced
  pub says : SaysItself (signed_for b) b
  pub laid : IsLaidOut b
  pub call : FailsToAppendTo InRewrite (signed_for b) error synced w
  pub range : EndsNumbersAt InRewrite (signed_for b) error synced w
  pub told : PipeFailsToAppend InRewrite (signed_for b) error synced w
  pub before : IsLater v.disk synced.disk

-- Why the batch's record wasn't written:
-- - it can't be encoded: it would be too long, or memory ran out
-- - the sync before the write failed
-- - the write failed
abbrev pub IsUnwritten : Batch → Error → LogPipes → LogPipes → Type 0
IsUnwritten b error v w = (IsUnrecorded b error × (w ≡ v))
    ⊎ (((error ≡ errors.Failed) × FailsToSyncQueue InRewrite v w)
    ⊎ RefusesRecord b error v w)

-- The batch's record wasn't written. If the pipes hadn't failed before, they have failed now exactly if the error is
-- `Failed`.
pub record FailsToWriteRecord (b : Batch) (error : Error) (v w : LogPipes) : Type 0 where
  pub why : IsUnwritten b error v w
  pub tells : is_failed v ≡ false → IsTrue (is_failed w) ↔ (error ≡ errors.Failed)
  pub later : IsLater v.disk w.disk

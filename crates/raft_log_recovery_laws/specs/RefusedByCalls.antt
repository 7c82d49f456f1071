-- How far an open of a log came before it failed.
use Rattle.std.specs.Prelude.{◌≡◌, ℕ, List}
use Rattle.raft_log_record_base.specs.declared.errors.Error.{Error}
use Rattle.raft_log_record_base.specs.declared.pipe_log.LogQueue.{LogQueue}
use Rattle.raft_log_fs.specs.Disk.{Disk}
use Rattle.raft_log_file_settings.specs.declared.config.Config.{Config}
use Rattle.raft_log_replay.specs.Machines.{Batch}
use Rattle.raft_log_replay_context.specs.Batches.{Declines}
use Rattle.raft_log_replay_context.specs.declared.context.MemTableRecoverContext.{MemTableRecoverContext}
use Rattle.raft_log_recovery.specs.Finishing.{FailsToOpenRecovered}
use Rattle.raft_log_recovery.specs.Recovering.{FailsToRecoverLog, RecoversLog}
use Rattle.raft_log_recovery.specs.Reserving.{FailsToReadyLog}
use Rattle.raft_log_recovery.specs.Scanning.{FailsToScanLog}
use Rattle.raft_log_recovery.specs.declared.builder.DualPipesBuilder.{DualPipesBuilder}
use Rattle.raft_log_recovery.specs.Finding.{FindsLog, IsBegun}
use Rattle.raft_log_recovery_laws.specs.ByCalls.{reads, LogIsRecovered}

-- recovery rejects, with `error`, the batches `batches` that were read from the files of `queue`
abbrev pub declines : LogQueue → List Batch → Error → Type 0
declines queue batches error = Declines queue batches error

-- Preparing files for recycling failed with `error`, and changed disk `old` into `new`. `tells` says which free space a
-- file system may report for a directory.
pub record FailsToReadyOn {F : Type 0} (disk : F → Disk) (tells : F → List ℕ → ℕ → Type 0)
    (b : DualPipesBuilder) (error : Error) (old new : Disk) : Type 0 where
  pub from : F
  pub to : F
  pub from_is : disk from ≡ old
  pub to_is : disk to ≡ new
  pub fails : FailsToReadyLog disk tells b error from to

-- How far an open came before it failed or was abandoned. `d` is the disk before the open, `new` the disk after it.
-- - `undone`: nothing was done.
-- - `unscanned`: the scan of the directories failed.
-- - `unrecovered`: reading or truncating the files failed.
-- - `unmerged`: the open was abandoned after the recovery, for example since memory ran out for the tables.
-- - `unreadied`: preparing files for recycling failed.
-- - `given_up`: the open was abandoned after the files for recycling were prepared.
-- - `unopened`: syncing the files or opening the pipes failed.
pub data FailsToOpenByCalls {F : Type 0} (disk : F → Disk) (tells : F → List ℕ → ℕ → Type 0) (config : Config)
    (d new : Disk) : Type 0 where
  undone : new ≡ d → FailsToOpenByCalls disk tells config d new
  unscanned : (b : DualPipesBuilder) (error : Error) → IsBegun config b → FailsToScanLog b error d new
      → FailsToOpenByCalls disk tells config d new
  unrecovered : (found : DualPipesBuilder) (scanned : Disk) (error : Error) → FindsLog config found d scanned
      → FailsToRecoverLog reads declines found error scanned new → FailsToOpenByCalls disk tells config d new
  unmerged : (found read : DualPipesBuilder) (scanned : Disk) (append rewrite : MemTableRecoverContext)
      → FindsLog config found d scanned → RecoversLog reads append rewrite found read scanned new
      → FailsToOpenByCalls disk tells config d new
  unreadied : (found read : DualPipesBuilder) (scanned cut : Disk) (append rewrite : MemTableRecoverContext)
      (error : Error) → FindsLog config found d scanned
      → RecoversLog reads append rewrite found read scanned cut → FailsToReadyOn disk tells read error cut new
      → FailsToOpenByCalls disk tells config d new
  given_up : (append rewrite : MemTableRecoverContext) (ready : DualPipesBuilder)
      → LogIsRecovered disk tells config d append rewrite ready new → FailsToOpenByCalls disk tells config d new
  unopened : (append rewrite : MemTableRecoverContext) (ready : DualPipesBuilder) (readied : Disk)
      (error : Error) → LogIsRecovered disk tells config d append rewrite ready readied
      → FailsToOpenRecovered ready error readied new → FailsToOpenByCalls disk tells config d new

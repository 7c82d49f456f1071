-- The recovery of one queue: its files are read, and then damaged files are truncated.
use Rattle.std.specs.Prelude.{◌≡◌, List}
use Rattle.std.specs.declared.io.ErrorKind.{ErrorKind}
use Rattle.raft_log_record_base.specs.declared.errors.Error.{Error}
use Rattle.raft_log_record_base.specs.declared.errors.Error.TheVariants as errors
use Rattle.raft_log_record_base.specs.declared.pipe_log.LogQueue.{LogQueue}
use Rattle.raft_log_record_base.specs.declared.pipe_log.LogQueue.TheVariants.{Append, Rewrite}
use Rattle.raft_log_fs.specs.Disk.{Disk}
use Rattle.raft_log_recovery_scan.specs.declared.recovery_config.RecoveryConfig.{RecoveryConfig}
use Rattle.raft_log_replay.specs.Machines.{Batch}
use Rattle.raft_log_recovery_read.specs.declared.file_ending.FileEnding.{FileEnding}
use Rattle.raft_log_recovery.specs.Reading.{HasReadFiles, FilesAreUnread}
use Rattle.raft_log_recovery.specs.Cutting.{CutsEach, FailsToCutEach}
use Rattle.raft_log_recovery.specs.Unaligned.{AreUnaligned, TellsAligned}
use Rattle.raft_log_recovery.specs.declared.builder.DualPipesBuilder.{DualPipesBuilder}
use Rattle.raft_log_recovery.specs.declared.recovered_queue.RecoveredQueue.{RecoveredQueue}

-- The replay machine has read all files of the queue `q`, or none if `config.concurrency` is 0. No file that was read
-- has an alignment, so there is no padding between its records. Then the damaged files were truncated and synced.
-- `after` has the files of `q`, and the result for each file that was read.
pub record RecoversFiles {M : Type 0} (reads : LogQueue → List Batch → M → Type 0) (config : RecoveryConfig)
    (machine : M) (q after : RecoveredQueue) (old new : Disk) : Type 0 where
  pub read : HasReadFiles reads config q.files.items old machine after.endings.items
  pub unaligned : AreUnaligned after.endings.items
  pub cut : CutsEach q.files.items after.endings.items old new
  pub same : after.files ≡ q.files

-- Why recovering a queue fails:
-- - `unread`: reading the queue failed, and nothing was truncated
-- - `aligned`: a file has an alignment, and nothing was truncated
-- - `uncut`: truncating or syncing a damaged file failed, after the damaged files before it were truncated
pub data FailsToRecoverFiles {M : Type 0} (reads : LogQueue → List Batch → M → Type 0)
    (declines : LogQueue → List Batch → Error → Type 0) (config : RecoveryConfig) (q : RecoveredQueue)
    (error : Error) (old new : Disk) : Type 0 where
  unread : new ≡ old → FilesAreUnread declines config q.files.items old error
      → FailsToRecoverFiles reads declines config q error old new
  aligned : (machine : M) (endings : List FileEnding)
      → HasReadFiles reads config q.files.items old machine endings → new ≡ old
      → (AreUnaligned endings → ⊥) → TellsAligned error
      → FailsToRecoverFiles reads declines config q error old new
  uncut : (machine : M) (endings : List FileEnding) (kind : ErrorKind)
      → HasReadFiles reads config q.files.items old machine endings → AreUnaligned endings
      → error ≡ errors.Io kind
      → FailsToCutEach q.files.items endings kind old new
      → FailsToRecoverFiles reads declines config q error old new

-- the files of this queue that the builder found, with the results of reading them
abbrev pub queue_files : LogQueue → DualPipesBuilder → RecoveredQueue
queue_files Append b = b.append
queue_files Rewrite b = b.rewrite

-- `after` is the builder `b`, except for the files of this queue and their results
abbrev pub OtherQueueIsKept : LogQueue → DualPipesBuilder → DualPipesBuilder → Type 0
OtherQueueIsKept Append b after = after ≡ record b { append = after.append }
OtherQueueIsKept Rewrite b after = after ≡ record b { rewrite = after.rewrite }

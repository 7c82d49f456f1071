-- The recovery of both queues: worker threads read their files, and then damaged files are truncated.
use Rattle.std.specs.Prelude.{◌≡◌, ◌+◌, ℕ, min, length, List}
use Rattle.std.specs.declared.io.ErrorKind.{ErrorKind}
use Rattle.raft_log_record_base.specs.declared.errors.Error.{Error}
use Rattle.raft_log_record_base.specs.declared.errors.Error.TheVariants as errors
use Rattle.raft_log_record_base.specs.declared.pipe_log.LogQueue.{LogQueue}
use Rattle.raft_log_record_base.specs.declared.pipe_log.LogQueue.TheVariants.{Append, Rewrite}
use Rattle.raft_log_fs.specs.Disk.{Disk}
use Rattle.raft_log_file_settings.specs.Settings.{settings_of}
use Rattle.raft_log_file_settings.specs.declared.config.Config.{Config}
use Rattle.raft_log_active_file.specs.declared.format.File.{File}
use Rattle.raft_log_recovery_scan.specs.Chunks.{append_share, rewrite_share}
use Rattle.raft_log_recovery_scan.specs.declared.recovery_config.RecoveryConfig.{RecoveryConfig}
use Rattle.raft_log_replay.specs.Machines.{Batch}
use Rattle.raft_log_recovery_read.specs.declared.file_ending.FileEnding.{FileEnding}
use Rattle.raft_log_recovery.specs.Reading.{HasReadFiles, FilesAreUnread}
use Rattle.raft_log_recovery.specs.Cutting.{CutsEach, FailsToCutEach}
use Rattle.raft_log_recovery.specs.Unaligned.{AreUnaligned, TellsAligned}
use Rattle.raft_log_recovery.specs.declared.builder.DualPipesBuilder.{DualPipesBuilder}

-- how the files of a queue are recovered with the settings in `config`, by `workers` worker threads
abbrev pub recovery_of : Config → LogQueue → ℕ → RecoveryConfig
recovery_of config queue workers = record {
  queue = queue;
  mode = (settings_of config).recovery_mode;
  concurrency = workers;
  read_block_size = (settings_of config).recovery_read_block_size;
}

-- the files of Append that the builder found
abbrev pub append_files : DualPipesBuilder → List File
append_files b = b.append.files.items

-- the files of Rewrite that the builder found
abbrev pub rewrite_files : DualPipesBuilder → List File
rewrite_files b = b.rewrite.files.items

-- how many worker threads read both queues together: as many as the settings allow, at most one for each file
abbrev pub all_workers : DualPipesBuilder → ℕ
all_workers b = min (settings_of b.config).recovery_threads
    (length (append_files b) + length (rewrite_files b))

-- how the files of Append are read: by Append's share of the worker threads
abbrev pub append_config : DualPipesBuilder → RecoveryConfig
append_config b = recovery_of b.config Append
    (append_share (all_workers b) (length (append_files b)) (length (rewrite_files b)))

-- how the files of Rewrite are read: by Rewrite's share of the worker threads
abbrev pub rewrite_config : DualPipesBuilder → RecoveryConfig
rewrite_config b = recovery_of b.config Rewrite
    (rewrite_share (all_workers b) (length (append_files b)) (length (rewrite_files b)))

-- One replay machine has read all files of Append, and another all files of Rewrite. The endings have the result for
-- each file. No file has an alignment.
pub record HasReadBoth {M : Type 0} (reads : LogQueue → List Batch → M → Type 0) (b : DualPipesBuilder)
    (d : Disk) (append rewrite : M) (append_endings rewrite_endings : List FileEnding) : Type 0 where
  pub append_read : HasReadFiles reads (append_config b) (append_files b) d append append_endings
  pub rewrite_read : HasReadFiles reads (rewrite_config b) (rewrite_files b) d rewrite rewrite_endings
  pub append_unaligned : AreUnaligned append_endings
  pub rewrite_unaligned : AreUnaligned rewrite_endings

-- Both queues were read into the replay machines `append` and `rewrite`. Then the damaged files were truncated and
-- synced, those of Append first. The builder `after` has the results for the files; otherwise it is the builder `b`.
pub record RecoversLog {M : Type 0} (reads : LogQueue → List Batch → M → Type 0) (append rewrite : M)
    (b after : DualPipesBuilder) (old new : Disk) : Type 0 where
  pub read : HasReadBoth reads b old append rewrite after.append.endings.items after.rewrite.endings.items
  pub between : Disk
  pub append_cut : CutsEach (append_files b) after.append.endings.items old between
  pub rewrite_cut : CutsEach (rewrite_files b) after.rewrite.endings.items between new
  pub same : (after.config ≡ b.config) × (after.append.files ≡ b.append.files)
      × (after.rewrite.files ≡ b.rewrite.files) × (after.reserved ≡ b.reserved)

-- Why recovering the queues fails:
-- - `append_unread`, `rewrite_unread`: reading a queue failed, and nothing was truncated
-- - `aligned`: a file has an alignment, and nothing was truncated
-- - `append_uncut`, `rewrite_uncut`: truncating or syncing a damaged file failed, after the damaged files before it
--   were truncated
pub data FailsToRecoverLog {M : Type 0} (reads : LogQueue → List Batch → M → Type 0)
    (declines : LogQueue → List Batch → Error → Type 0) (b : DualPipesBuilder) (error : Error)
    (old new : Disk) : Type 0 where
  append_unread : new ≡ old → FilesAreUnread declines (append_config b) (append_files b) old error
      → FailsToRecoverLog reads declines b error old new
  rewrite_unread : (append : M) (endings : List FileEnding)
      → HasReadFiles reads (append_config b) (append_files b) old append endings → new ≡ old
      → FilesAreUnread declines (rewrite_config b) (rewrite_files b) old error
      → FailsToRecoverLog reads declines b error old new
  aligned : (append rewrite : M) (es fs : List FileEnding)
      → HasReadFiles reads (append_config b) (append_files b) old append es
      → HasReadFiles reads (rewrite_config b) (rewrite_files b) old rewrite fs → new ≡ old
      → (AreUnaligned es × AreUnaligned fs → ⊥) → TellsAligned error
      → FailsToRecoverLog reads declines b error old new
  append_uncut : (append rewrite : M) (es fs : List FileEnding) (kind : ErrorKind)
      → HasReadBoth reads b old append rewrite es fs → error ≡ errors.Io kind
      → FailsToCutEach (append_files b) es kind old new → FailsToRecoverLog reads declines b error old new
  rewrite_uncut : (append rewrite : M) (es fs : List FileEnding) (kind : ErrorKind) (between : Disk)
      → HasReadBoth reads b old append rewrite es fs → error ≡ errors.Io kind
      → CutsEach (append_files b) es old between → FailsToCutEach (rewrite_files b) fs kind between new
      → FailsToRecoverLog reads declines b error old new

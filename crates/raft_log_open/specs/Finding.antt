-- An open finds a log's files. If one of them has an alignment, the open writes the files without padding and scans
-- again. A builder (`DualPipesBuilder`) has the settings of a log and the files that a scan found.
use Rattle.std.specs.Prelude.{◌≡◌, List, String}
use Rattle.std.specs.declared.alloc.Global.{Global}
use Rattle.raft_log_record_base.specs.declared.errors.Error.{Error}
use Rattle.raft_log_record_base.specs.declared.errors.Error.TheVariants as errors
use Rattle.raft_log_record_base.specs.declared.pipe_log.FileId.{FileId}
use Rattle.raft_log_fs.specs.Disk.{Disk}
use Rattle.raft_log_file_settings.specs.Settings.{directories_of, settings_of}
use Rattle.raft_log_file_settings.specs.declared.config.Config.{Config}
use Rattle.raft_log_replay_context.specs.Batches.{Declines, HasReadBatches}
use Rattle.raft_log_replay_context.specs.declared.context.MemTableRecoverContext.{MemTableRecoverContext}
use Rattle.raft_log_recovery_read.specs.declared.file_ending.FileEnding.{FileEnding}
use Rattle.raft_log_recovery.specs.Finding.{FindsLog}
use Rattle.raft_log_recovery.specs.Reading.{HasReadFiles}
use Rattle.raft_log_recovery.specs.Recovering.{FailsToRecoverLog, RecoversLog, append_config, append_files, rewrite_config, rewrite_files}
use Rattle.raft_log_recovery.specs.Scanning.{FailsToScanLog, ScansLog}
use Rattle.raft_log_recovery.specs.Unaligned.{AreUnaligned}
use Rattle.raft_log_recovery.specs.declared.builder.DualPipesBuilder.{DualPipesBuilder}
use Rattle.raft_log_open.specs.Unpadding.{FailsToUnpad, Unpads}

-- All files of the builder can be read on the disk `d`. At least one of them has an alignment, so there may be padding
-- between its records.
pub record HasPadding (b : DualPipesBuilder) (d : Disk) : Type 0 where
  pub append : MemTableRecoverContext
  pub rewrite : MemTableRecoverContext
  pub append_endings : List FileEnding
  pub rewrite_endings : List FileEnding
  pub append_read : HasReadFiles HasReadBatches (append_config b) (append_files b) d append append_endings
  pub rewrite_read : HasReadFiles HasReadBatches (rewrite_config b) (rewrite_files b) d rewrite rewrite_endings
  pub aligned : AreUnaligned append_endings × AreUnaligned rewrite_endings → ⊥

-- the log's files were found, all of them can be read, and at least one has an alignment
pub record FindsPadding (config : Config) (b : DualPipesBuilder) (old new : Disk) : Type 0 where
  pub finds : FindsLog config b old new
  pub has : HasPadding b new

-- The files that have padding were written without it, and then the log's directories were scanned again. `was` is the
-- builder of the first scan, and `b` that of the second.
pub record FindsAnew (was b : DualPipesBuilder) (old new : Disk) : Type 0 where
  pub written : List FileId
  pub unpadded : Disk
  pub unpads : Unpads (directories_of (settings_of was.config)) written old unpadded
  pub scans : ScansLog was b unpadded new

-- The files of `was` that have padding were written without it, and a second scan found the log's files again. Then the
-- queues were read into `append` and `rewrite`, and damaged files were truncated. `b` is the builder after all this.
pub record ReadsAnew (was : DualPipesBuilder) (append rewrite : MemTableRecoverContext) (b : DualPipesBuilder)
    (old new : Disk) : Type 0 where
  pub found : DualPipesBuilder
  pub scanned : Disk
  pub anew : FindsAnew was found old scanned
  pub recovers : RecoversLog HasReadBatches append rewrite found b scanned new

-- `b` has the log's files as the last scan found them. Either the first scan was the only one. Or it found a file with
-- an alignment. Then the files with padding were written without it, and the directories were scanned again.
pub data FindsUnpadded (config : Config) (b : DualPipesBuilder) (old new : Disk) : Type 0 where
  as_it_stood : FindsLog config b old new → FindsUnpadded config b old new
  once_unpadded : (was : DualPipesBuilder) (padded : Disk) → FindsPadding config was old padded
      → FindsAnew was b padded new → FindsUnpadded config b old new

-- the error isn't `InvalidArgument`; a recovery returns `InvalidArgument` if a file has an alignment
abbrev pub IsNoPadding : Error → Type 0
IsNoPadding error = (text : String Global) → error ≡ errors.InvalidArgument text → ⊥

-- Why reading a log without its padding fails:
-- - `still_padded`: writing the files without padding failed.
-- - `unfound`: the files were written, and the second scan of the directories failed.
-- - `unread`: the files were found again, and reading a queue or truncating its damaged files failed.
pub data FailsToReadAnew (was : DualPipesBuilder) (error : Error) (old new : Disk) : Type 0 where
  still_padded : FailsToUnpad (directories_of (settings_of was.config)) error old new
      → FailsToReadAnew was error old new
  unfound : (written : List FileId) (unpadded : Disk)
      → Unpads (directories_of (settings_of was.config)) written old unpadded
      → FailsToScanLog was error unpadded new → FailsToReadAnew was error old new
  unread : (found : DualPipesBuilder) (scanned : Disk) → FindsAnew was found old scanned
      → FailsToRecoverLog HasReadBatches Declines found error scanned new → FailsToReadAnew was error old new

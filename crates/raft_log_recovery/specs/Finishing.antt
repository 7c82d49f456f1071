-- The last step of an open: the files of a recovered log are synced, and its pipes are opened over them.
use Rattle.std.specs.Prelude.{◌≡◌, ℕ, List, [], length, codes}
use Rattle.std.specs.String.{string_bytes}
use Rattle.std.specs.declared.io.ErrorKind.{ErrorKind}
use Rattle.raft_log_record_base.specs.declared.errors.Error.{Error}
use Rattle.raft_log_record_base.specs.declared.errors.Error.TheVariants as errors
use Rattle.raft_log_record_base.specs.declared.pipe_log.LogQueue.{LogQueue}
use Rattle.raft_log_record_base.specs.declared.pipe_log.LogQueue.TheVariants.{Append, Rewrite}
use Rattle.raft_log_fs.specs.Disk.{Disk}
use Rattle.raft_log_file_settings.specs.Sanitized.{recycle_capacity}
use Rattle.raft_log_file_settings.specs.Settings.{settings_of}
use Rattle.raft_log_file_settings.specs.declared.config.Config.{Config}
use Rattle.raft_log_active_file.specs.declared.format.File.{File}
use Rattle.raft_log_dual_pipes.specs.Opening.{FailsToOpenLog, IsFoundAs, OpensLog}
use Rattle.raft_log_dual_pipes.specs.Pipes.{LogPipes}
use Rattle.raft_log_dual_pipes.specs.declared.opening.FoundPipe.{FoundPipe}
use Rattle.raft_log_recovery.specs.Directories.{paths_of}
use Rattle.raft_log_recovery.specs.Endings.{as_read, end_of_last}
use Rattle.raft_log_recovery.specs.Recovering.{append_files, rewrite_files}
use Rattle.raft_log_recovery.specs.Syncing.{FailsToSyncEach, SyncsEach}
use Rattle.raft_log_recovery.specs.declared.builder.DualPipesBuilder.{DualPipesBuilder}
use Rattle.raft_log_recovery.specs.declared.recovered_queue.RecoveredQueue.{RecoveredQueue}

-- The most files that a queue's live range and the queue's files for recycling may have together. A purge keeps no more
-- files for recycling than that. It is 0 for Rewrite, which keeps none.
abbrev pub capacity_of : LogQueue → Config → ℕ
capacity_of Append config = recycle_capacity (settings_of config)
capacity_of Rewrite config = 0

-- The pipe of a queue is to be opened in the log's directories. Its new files get the format version and the size of
-- the settings, and no alignment. Its capacity is `capacity_of` the queue.
pub record IsWantedAs (queue : LogQueue) (config : Config) (pipe : FoundPipe) : Type 0 where
  pub lies : IsFoundAs queue (paths_of config) pipe
  pub version : pipe.settings.new_files.format.version ≡ config.format_version
  pub unaligned : pipe.settings.new_files.format.alignment ≡ 0
  pub size : pipe.settings.new_files.target_size ≡ config.target_file_size.0
  pub capacity : pipe.settings.capacity ≡ capacity_of queue config

-- The pipe of a queue gets what was recovered of the queue:
-- - its files, each with the format that was read from the file's header
-- - the offset up to which the last file was read
-- - the files that are kept for recycling
pub record IsPipeRecovered (queue : LogQueue) (config : Config) (read : RecoveredQueue) (kept : List File)
    (pipe : FoundPipe) : Type 0 where
  pub wanted : IsWantedAs queue config pipe
  pub files : pipe.found.files.items ≡ as_read read.endings.items read.files.items
  pub end : pipe.found.end ≡ end_of_last read.endings.items
  pub spares : pipe.found.recycled.items ≡ kept

-- the builder has a result for each file of both queues
pub record IsAllRead (b : DualPipesBuilder) : Type 0 where
  pub append : length b.append.endings.items ≡ length (append_files b)
  pub rewrite : length b.rewrite.endings.items ≡ length (rewrite_files b)

-- the files of both queues were synced, those of Append first, and then those that are kept for recycling
pub record SyncsLog (b : DualPipesBuilder) (old new : Disk) : Type 0 where
  pub between : Disk
  pub behind : Disk
  pub append : SyncsEach (append_files b) old between
  pub rewrite : SyncsEach (rewrite_files b) between behind
  pub reserved : SyncsEach b.reserved.items behind new

-- Syncing a file failed: a file of a queue, or one that is kept for recycling. The files before it, in the order of
-- `SyncsLog`, were synced.
pub data FailsToSyncLog (b : DualPipesBuilder) (kind : ErrorKind) (old new : Disk) : Type 0 where
  append_unsynced : FailsToSyncEach (append_files b) kind old new → FailsToSyncLog b kind old new
  rewrite_unsynced : (between : Disk) → SyncsEach (append_files b) old between
      → FailsToSyncEach (rewrite_files b) kind between new → FailsToSyncLog b kind old new
  reserved_unsynced : (between behind : Disk) → SyncsEach (append_files b) old between
      → SyncsEach (rewrite_files b) between behind → FailsToSyncEach b.reserved.items kind behind new
      → FailsToSyncLog b kind old new

-- A log was opened over its recovered files. First all of these files were synced, and then the log's pipes were
-- opened. `v` are the open pipes.
pub record OpensRecovered (b : DualPipesBuilder) (old : Disk) (v : LogPipes) : Type 0 where
  pub read : IsAllRead b
  pub synced : Disk
  pub syncs : SyncsLog b old synced
  pub append : FoundPipe
  pub rewrite : FoundPipe
  pub append_is : IsPipeRecovered Append b.config b.append b.reserved.items append
  pub rewrite_is : IsPipeRecovered Rewrite b.config b.rewrite [] rewrite
  pub opens : OpensLog append rewrite synced v

-- the message of the error if the log's files weren't recovered before
abbrev pub told_unread : List ℕ
told_unread = codes "the log's files weren't recovered"

-- the error if files weren't recovered before: `InvalidArgument` with this message, or `Memory` if the message can't be
-- allocated
abbrev pub TellsUnread : Error → Type 0
TellsUnread (errors.InvalidArgument text) = string_bytes text ≡ told_unread
TellsUnread errors.Memory = Unit {0}
TellsUnread _ = ⊥

-- The error if `finish` did nothing:
-- - `InvalidArgument`: not all files were recovered before.
-- - `Memory`: memory ran out.
abbrev pub IsUnready : DualPipesBuilder → Error → Type 0
IsUnready b (errors.InvalidArgument text) = (IsAllRead b → ⊥) × (string_bytes text ≡ told_unread)
IsUnready b errors.Memory = Unit {0}
IsUnready b _ = ⊥

-- Why opening a log over its recovered files fails:
-- - `unready`: not all files were recovered, or memory ran out; nothing was done
-- - `unsynced`: the sync of a file failed, after the files before it were synced
-- - `unopened`: all files were synced, and opening a pipe failed
pub data FailsToOpenRecovered (b : DualPipesBuilder) (error : Error) (old new : Disk) : Type 0 where
  unready : IsUnready b error → new ≡ old → FailsToOpenRecovered b error old new
  unsynced : (kind : ErrorKind) → error ≡ errors.Io kind → IsAllRead b → FailsToSyncLog b kind old new
      → FailsToOpenRecovered b error old new
  unopened : (synced : Disk) (append rewrite : FoundPipe) → IsAllRead b → SyncsLog b old synced
      → IsPipeRecovered Append b.config b.append b.reserved.items append
      → IsPipeRecovered Rewrite b.config b.rewrite [] rewrite
      → FailsToOpenLog append rewrite error synced new → FailsToOpenRecovered b error old new

-- A check of a log without opening it: it finds the groups whose entries leave out indexes.
use Rattle.std.specs.Prelude.{◌≡◌, ℕ, true, List, length}
use Rattle.std.specs.declared.io.ErrorKind.TheVariants.{Other}
use Rattle.raft_log_record_base.specs.declared.errors.Error.{Error}
use Rattle.raft_log_record_base.specs.declared.errors.Error.TheVariants as errors
use Rattle.raft_log_record_base.specs.declared.pipe_log.LogQueue.{LogQueue}
use Rattle.raft_log_record_base.specs.declared.pipe_log.LogQueue.TheVariants.{Append, Rewrite}
use Rattle.raft_log_fs.specs.Disk.{Disk}
use Rattle.raft_log_file_settings.specs.Sanitized.{IsRefusedFor}
use Rattle.raft_log_file_settings.specs.Settings.{settings_of}
use Rattle.raft_log_file_settings.specs.declared.config.Config.{Config}
use Rattle.raft_log_file_settings.specs.declared.recovery_mode.RecoveryMode.{RecoveryMode}
use Rattle.raft_log_active_file.specs.declared.format.File.{File}
use Rattle.raft_log_replay.specs.Machines.{Batch}
use Rattle.raft_log_replay.specs.Segments.{all_batches}
use Rattle.raft_log_replay.specs.Sources.{HoldEach}
use Rattle.raft_log_recovery_read.specs.Segments.{HoldsFile}
use Rattle.raft_log_recovery_read.specs.declared.file_ending.FileEnding.{FileEnding}
use Rattle.raft_log_recovery.specs.ForReading.{QueuesAreUnread}
use Rattle.raft_log_recovery.specs.Recovering.{append_files, rewrite_files}
use Rattle.raft_log_recovery.specs.Scanning.{FailsToScanLog}
use Rattle.raft_log_recovery.specs.declared.builder.DualPipesBuilder.{DualPipesBuilder}
use Rattle.raft_log_recovery.specs.Finding.{FindsLog, IsBegun}
use Rattle.raft_log_offline.specs.Findings.{Lists, finding_of}
use Rattle.raft_log_offline.specs.Kept.{KeepsRuns, IsOutOfMemory}
use Rattle.raft_log_offline.specs.declared.checker.ConsistencyChecker.{ConsistencyChecker}

-- `batches` are the batches in a queue's files on disk `d`, file after file. `endings` says for each file where its
-- records end and whether it is damaged.
pub record HoldAll (queue : LogQueue) (mode : RecoveryMode) (files : List File) (d : Disk)
    (batches : List Batch) (endings : List FileEnding) : Type 0 where
  pub segments : List (List Batch)
  pub held : HoldEach (HoldsFile mode queue files d) 0 segments endings
  pub all : length segments ≡ length files
  pub joined : batches ≡ all_batches segments

-- The log's files were found, and have the batches `append` and `rewrite`. `old` is the disk before this, `new` the
-- disk after it.
pub record ReadsLogFiles (config : Config) (append rewrite : List Batch) (old new : Disk) : Type 0 where
  pub found : DualPipesBuilder
  pub finds : FindsLog config found old new
  pub append_endings : List FileEnding
  pub rewrite_endings : List FileEnding
  pub of_append : HoldAll Append found.config.recovery_mode (append_files found) new append append_endings
  pub of_rewrite : HoldAll Rewrite found.config.recovery_mode (rewrite_files found) new rewrite rewrite_endings

-- both disks have the same files under the same names
abbrev pub HaveSameFiles : Disk → Disk → Type 0
HaveSameFiles old new = (new.files ≡ old.files) × (new.names ≡ old.names)

-- The log's files were read, and `findings` has exactly the findings for their records. A finding is a group, and the
-- last index before its first hole.
pub record ChecksLog (config : Config) (findings : List (ℕ × ℕ)) (old new : Disk) : Type 0 where
  pub append : List Batch
  pub rewrite : List Batch
  pub reads : ReadsLogFiles config append rewrite old new
  pub lists : Lists (finding_of append rewrite) findings

-- The log's files were read. Each queue's checker has, for each group, the first and the last index and the finding of
-- the group's runs in that queue.
pub record ReadsRuns (config : Config) (append rewrite : ConsistencyChecker) (old new : Disk) : Type 0 where
  pub append_batches : List Batch
  pub rewrite_batches : List Batch
  pub reads : ReadsLogFiles config append_batches rewrite_batches old new
  pub append_kept : KeepsRuns Append append_batches append
  pub rewrite_kept : KeepsRuns Rewrite rewrite_batches rewrite

-- Why a check of a log fails, and the disk after it:
-- - `ended`: the file system had stopped.
-- - `unsound`: the settings have a fault.
-- - `unfound`: finding the log's files failed.
-- - `unread`: the files were found, and reading a queue failed.
-- - `unlisted`: the log's files were read, but memory ran out for the list of findings.
pub data FailsToCheck (config : Config) (error : Error) (old new : Disk) : Type 0 where
  ended : old.stopped ≡ true → error ≡ errors.Io Other → new ≡ old → FailsToCheck config error old new
  unsound : IsRefusedFor (settings_of config) error → new ≡ old → FailsToCheck config error old new
  unfound : (begun : DualPipesBuilder) → IsBegun config begun → FailsToScanLog begun error old new
      → FailsToCheck config error old new
  unread : (found : DualPipesBuilder) → FindsLog config found old new
      → QueuesAreUnread KeepsRuns IsOutOfMemory found new error → FailsToCheck config error old new
  unlisted : (append rewrite : List Batch) → ReadsLogFiles config append rewrite old new
      → error ≡ errors.Memory → FailsToCheck config error old new

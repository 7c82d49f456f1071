-- A log is read without being opened, for example to check it. Unlike `recover`, such a read truncates nothing. It also
-- accepts files that have an alignment, with padding between records.
use Rattle.std.specs.Prelude.{List}
use Rattle.std.specs.declared.io.ErrorKind.{ErrorKind}
use Rattle.raft_log_record_base.specs.declared.errors.Error.{Error}
use Rattle.raft_log_record_base.specs.declared.pipe_log.LogQueue.{LogQueue}
use Rattle.raft_log_fs.specs.Disk.{Disk}
use Rattle.raft_log_replay.specs.Machines.{Batch}
use Rattle.raft_log_recovery_read.specs.declared.file_ending.FileEnding.{FileEnding}
use Rattle.raft_log_recovery.specs.Reading.{HasReadFiles, FilesAreUnread}
use Rattle.raft_log_recovery.specs.Cutting.{CutsEach, FailsToCutEach}
use Rattle.raft_log_recovery.specs.Recovering.{append_config, append_files, rewrite_config, rewrite_files}
use Rattle.raft_log_recovery.specs.declared.builder.DualPipesBuilder.{DualPipesBuilder}

-- one replay machine has read all files of Append, and another all files of Rewrite; the endings have the result for
-- each file
pub record HasReadQueues {M : Type 0} (reads : LogQueue → List Batch → M → Type 0) (b : DualPipesBuilder)
    (d : Disk) (append rewrite : M) (append_endings rewrite_endings : List FileEnding) : Type 0 where
  pub append_read : HasReadFiles reads (append_config b) (append_files b) d append append_endings
  pub rewrite_read : HasReadFiles reads (rewrite_config b) (rewrite_files b) d rewrite rewrite_endings

-- why reading both queues fails: reading Append failed; or Append was read, and then reading Rewrite failed
pub data QueuesAreUnread {M : Type 0} (reads : LogQueue → List Batch → M → Type 0)
    (declines : LogQueue → List Batch → Error → Type 0) (b : DualPipesBuilder) (d : Disk) (error : Error)
    : Type 0 where
  append : FilesAreUnread declines (append_config b) (append_files b) d error
      → QueuesAreUnread reads declines b d error
  rewrite : (machine : M) (endings : List FileEnding)
      → HasReadFiles reads (append_config b) (append_files b) d machine endings
      → FilesAreUnread declines (rewrite_config b) (rewrite_files b) d error
      → QueuesAreUnread reads declines b d error

-- the damaged files of both queues were truncated, those of Append first
pub record CutsBoth (b : DualPipesBuilder) (append_endings rewrite_endings : List FileEnding)
    (old new : Disk) : Type 0 where
  pub between : Disk
  pub append_cut : CutsEach (append_files b) append_endings old between
  pub rewrite_cut : CutsEach (rewrite_files b) rewrite_endings between new

-- truncating a damaged file failed: one of Append; or one of Rewrite, after those of Append were truncated
pub data FailsToCutBoth (b : DualPipesBuilder) (append_endings rewrite_endings : List FileEnding)
    (kind : ErrorKind) (old new : Disk) : Type 0 where
  append : FailsToCutEach (append_files b) append_endings kind old new
      → FailsToCutBoth b append_endings rewrite_endings kind old new
  rewrite : (between : Disk) → CutsEach (append_files b) append_endings old between
      → FailsToCutEach (rewrite_files b) rewrite_endings kind between new
      → FailsToCutBoth b append_endings rewrite_endings kind old new

-- both queues were read into the replay machines `append` and `rewrite`; nothing was truncated
pub record ReadsLog {M : Type 0} (reads : LogQueue → List Batch → M → Type 0) (append rewrite : M)
    (b : DualPipesBuilder) (d : Disk) : Type 0 where
  pub append_endings : List FileEnding
  pub rewrite_endings : List FileEnding
  pub read : HasReadQueues reads b d append rewrite append_endings rewrite_endings

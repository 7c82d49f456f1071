-- An open reads the queues of a log into replay contexts, and merges these into the memtables.
use Rattle.std.specs.Prelude.{◌≡◌, ◌-◌, ◌^◌, ℕ, min, List, length}
use Rattle.raft_log_record_base.specs.declared.pipe_log.LogQueue.{LogQueue}
use Rattle.raft_log_record_base.specs.declared.pipe_log.LogQueue.TheVariants.{Append, Rewrite}
use Rattle.raft_log_fs.specs.Disk.{Disk}
use Rattle.raft_log_file_settings.specs.declared.config.Config.{Config}
use Rattle.raft_log_file_settings.specs.declared.recovery_mode.RecoveryMode.{RecoveryMode}
use Rattle.raft_log_active_file.specs.declared.format.File.{File}
use Rattle.raft_log_memtables.specs.Tables.{IsAtRest}
use Rattle.raft_log_memtables.specs.declared.mem_tables.MemTables.{MemTables}
use Rattle.raft_log_replay.specs.Machines.{Batch}
use Rattle.raft_log_replay.specs.Segments.{all_batches}
use Rattle.raft_log_replay.specs.Sources.{HoldEach}
use Rattle.raft_log_recovery_read.specs.Segments.{HoldsFile}
use Rattle.raft_log_recovery_read.specs.declared.file_ending.FileEnding.{FileEnding}
use Rattle.raft_log_replay_context.specs.Batches.{HasReadBatches}
use Rattle.raft_log_replay_context.specs.Context.{ComesOver, HasRead}
use Rattle.raft_log_replay_context.specs.Records.{ReadRecord}
use Rattle.raft_log_replay_context.specs.Written.{written_by}
use Rattle.raft_log_replay_context.specs.declared.context.MemTableRecoverContext.{MemTableRecoverContext}
use Rattle.raft_log_recovery.specs.Finishing.{IsAllRead}
use Rattle.raft_log_recovery.specs.Recovering.{append_files, rewrite_files, RecoversLog}
use Rattle.raft_log_recovery.specs.Reserving.{ReadiesLog}
use Rattle.raft_log_recovery.specs.declared.builder.DualPipesBuilder.{DualPipesBuilder}
use Rattle.raft_log_open.specs.Finding.{FindsUnpadded}

-- The context has read all these files of a queue on the disk `d`, in order, as the recovery mode `mode` requires.
-- `endings` has the result for each file.
pub record HasReadAll (queue : LogQueue) (mode : RecoveryMode) (files : List File) (d : Disk)
    (context : MemTableRecoverContext) (endings : List FileEnding) : Type 0 where
  pub segments : List (List Batch)
  pub held : HoldEach (HoldsFile mode queue files d) 0 segments endings
  pub all : length segments ≡ length files
  pub read : HasReadBatches queue (all_batches segments) context

-- The log's files were found, after padding was taken out (`FindsUnpadded`). Then one context read all files of Append,
-- and another all files of Rewrite. After that the damaged files were truncated.
pub record ReadsQueues (config : Config) (append rewrite : MemTableRecoverContext) (b : DualPipesBuilder)
    (old new : Disk) : Type 0 where
  pub found : DualPipesBuilder
  pub scanned : Disk
  pub finds : FindsUnpadded config found old scanned
  pub recovers : RecoversLog HasReadBatches append rewrite found b scanned new
  pub append_all : HasReadAll Append found.config.recovery_mode (append_files found) scanned append
      b.append.endings.items
  pub rewrite_all : HasReadAll Rewrite found.config.recovery_mode (rewrite_files found) scanned rewrite
      b.rewrite.endings.items

-- `n` is how many entries and values were read from Rewrite's files, live or not; at most 2 ^ 64 - 1
pub record BringsInRewrite (config : Config) (d : Disk) (n : ℕ) : Type 0 where
  pub found : DualPipesBuilder
  pub scanned : Disk
  pub finds : FindsUnpadded config found d scanned
  pub segments : List (List Batch)
  pub endings : List FileEnding
  pub held : HoldEach (HoldsFile found.config.recovery_mode Rewrite (rewrite_files found) scanned) 0 segments
      endings
  pub all : length segments ≡ length (rewrite_files found)
  pub count : n ≡ min (written_by (all_batches segments)) (2 ^ 64 - 1)

-- the memtables are what Append's context has, merged over what Rewrite's has, and no batch is prepared in them
pub record AreMergedOf (append rewrite : MemTableRecoverContext) (tables : MemTables) : Type 0 where
  pub over : (first behind : List ReadRecord) → HasRead Rewrite first rewrite → HasRead Append behind append
      → ComesOver first behind tables
  pub rest : IsAtRest tables

-- Both queues were read and merged into these memtables. Then reserved files were made or deleted, as the settings
-- want. The builder has a result for each file of the queues. `disk` gives the disk of a file system's state. `tells`
-- gives the free space that the file system may return for a directory.
pub record ReadsLog {F : Type 0} (disk : F → Disk) (tells : F → List ℕ → ℕ → Type 0) (config : Config)
    (tables : MemTables) (b : DualPipesBuilder) (old new : F) : Type 0 where
  pub append : MemTableRecoverContext
  pub rewrite : MemTableRecoverContext
  pub recovered : DualPipesBuilder
  pub between : F
  pub reads : ReadsQueues config append rewrite recovered (disk old) (disk between)
  pub merged : AreMergedOf append rewrite tables
  pub readies : ReadiesLog disk tells recovered b between new
  pub all : IsAllRead b

-- Opening a log that is at rest on a disk (no engine has it open, and all of it is synced). An engine does this in five
-- steps: scan, recover, prepare files for recycling, sync, open.
use Rattle.std.specs.Prelude.{◌≡◌, ℕ, List}
use Rattle.raft_log_record_base.specs.declared.pipe_log.LogQueue.{LogQueue}
use Rattle.raft_log_record_base.specs.declared.pipe_log.LogQueue.TheVariants.{Append, Rewrite}
use Rattle.raft_log_fs.specs.Disk.{Disk}
use Rattle.raft_log_fs.specs.Image.{IsSound}
use Rattle.raft_log_file_settings.specs.declared.config.Config.{Config}
use Rattle.raft_log_engine_laws.specs.raft_log_active_file.specs.QueueFiles.{log_format, log_paths}
use Rattle.raft_log_file_pipe.specs.Files.{AllKept}
use Rattle.raft_log_engine_laws.specs.raft_log_memtables.specs.declared.mem_tables.MemTables.{MemTables}
use Rattle.raft_log_replay.specs.Machines.{Batch}
use Rattle.raft_log_replay_context.specs.Records.{ReadRecord}
use Rattle.raft_log_replay_context.specs.Context.{ComesOver, HasRead}
use Rattle.raft_log_replay_context.specs.Batches.{HasReadBatches}
use Rattle.raft_log_replay_context.specs.declared.context.MemTableRecoverContext.{MemTableRecoverContext}
use Rattle.raft_log_dual_pipes.specs.OnDisk.{IsDurableAs}
use Rattle.raft_log_dual_pipes.specs.Pipes.{LogPipes}
use Rattle.raft_log_engine_laws.specs.EngineState.{log_in, LogDirectories, LogMap}
use Rattle.raft_log_recovery.specs.Directories.{paths_of}
use Rattle.raft_log_recovery.specs.Finishing.{OpensRecovered, SyncsLog}
use Rattle.raft_log_recovery.specs.Recovering.{RecoversLog, append_files, rewrite_files}
use Rattle.raft_log_recovery.specs.Reserving.{ReadiesLog}
use Rattle.raft_log_recovery.specs.declared.builder.DualPipesBuilder.{DualPipesBuilder}
use Rattle.raft_log_recovery.specs.Finding.{FindsLog}
use Rattle.raft_log_recovery_laws.specs.Files.{AreQueueFiles}

-- the directories of a log by these settings: both queues use all directories that the settings name
abbrev pub home_of : Config → LogDirectories
home_of config = record { append = paths_of config; rewrite = paths_of config }

-- `P` holds for all settings that name the directories `home`. Other settings, such as the number of recovery threads,
-- may be anything.
abbrev pub ForAllNaming : LogDirectories → (Config → Type 0) → Type 0
ForAllNaming home P = (config : Config) → home_of config ≡ home → P config

-- reading `batches` from the files of `queue` gave the recovery context `context`
abbrev pub reads : LogQueue → List Batch → MemTableRecoverContext → Type 0
reads queue batches context = HasReadBatches queue batches context

-- The tables are those of Append's recovery context, merged over those of Rewrite's.
pub record ComeOver (append rewrite : MemTableRecoverContext) (tables : MemTables) : Type 0 where
  pub over : (first behind : List ReadRecord) → HasRead Rewrite first rewrite → HasRead Append behind append
      → ComesOver first behind tables

-- Files for recycling were prepared, which changed disk `old` into `new`, and the builder `b` into `ready`. `tells`
-- says which free space a file system may report for a directory.
pub record ReadiesOn {F : Type 0} (disk : F → Disk) (tells : F → List ℕ → ℕ → Type 0)
    (b ready : DualPipesBuilder) (old new : Disk) : Type 0 where
  pub from : F
  pub to : F
  pub from_is : disk from ≡ old
  pub to_is : disk to ≡ new
  pub readies : ReadiesLog disk tells b ready from to

-- The log of the settings `config` was found on disk `d`. Any number of workers read it into the contexts `append` and
-- `rewrite`, and its damaged files were truncated. Then files for recycling were prepared, which gave the builder
-- `ready` and disk `readied`.
pub record LogIsRecovered {F : Type 0} (disk : F → Disk) (tells : F → List ℕ → ℕ → Type 0) (config : Config)
    (d : Disk) (append rewrite : MemTableRecoverContext) (ready : DualPipesBuilder) (readied : Disk)
    : Type 0 where
  pub found : DualPipesBuilder
  pub read : DualPipesBuilder
  pub scanned : Disk
  pub cut : Disk
  pub finds : FindsLog config found d scanned
  pub recovers : RecoversLog reads append rewrite found read scanned cut
  pub readies : ReadiesOn disk tells read ready cut readied

-- The pipes `v` and `tables` were made from the log of the settings `config` on disk `d`. The log was recovered, all
-- its files were synced, and the pipes were opened. What was read from Append was merged over what was read from
-- Rewrite.
pub record OpensByCalls {F : Type 0} (disk : F → Disk) (tells : F → List ℕ → ℕ → Type 0) (config : Config)
    (d : Disk) (v : LogPipes) (tables : MemTables) : Type 0 where
  pub ready : DualPipesBuilder
  pub readied : Disk
  pub append : MemTableRecoverContext
  pub rewrite : MemTableRecoverContext
  pub recovered : LogIsRecovered disk tells config d append rewrite ready readied
  pub opens : OpensRecovered ready readied v
  pub comes : ComeOver append rewrite tables

-- If a log is at rest, a scan of its directories finds all files of each queue from the last gap in its numbers on.
abbrev pub ScansFindAllFiles : Type 0
ScansFindAllFiles = (config : Config) (d : Disk) (m : LogMap) → IsSound d
    → (rests : IsDurableAs (log_in (home_of config)) d m) → (found : DualPipesBuilder) (scanned : Disk)
    → FindsLog config found d scanned
    → AreQueueFiles (log_in (home_of config)).append rests.state.append scanned (append_files found)
    × AreQueueFiles (log_in (home_of config)).rewrite rests.state.rewrite scanned (rewrite_files found)

-- A log at rest was recovered, and all its files were synced. Then each file that is kept for recycling can be
-- recycled, and no two of them have the same path. Whatever such a file holds counts as stale under any number that it
-- may get.
abbrev pub SyncedSparesCanBeUsed : {F : Type 0} → (F → Disk) → (F → List ℕ → ℕ → Type 0) → Type 0
SyncedSparesCanBeUsed disk tells = (config : Config) (d : Disk) (m : LogMap) → IsSound d
    → IsDurableAs (log_in (home_of config)) d m
    → (append rewrite : MemTableRecoverContext) (ready : DualPipesBuilder) (readied synced : Disk)
    → LogIsRecovered disk tells config d append rewrite ready readied → SyncsLog ready readied synced
    → (first : ℕ) → AllKept (log_format Append (paths_of config))
    (log_paths Append (paths_of config)) first synced ready.reserved.items

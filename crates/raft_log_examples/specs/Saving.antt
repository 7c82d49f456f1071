-- What a caller of an engine does in the example of ten lines. `disk` gives the disk of a file system's state. `tells`
-- says which numbers the file system may return as a directory's free space.
use Rattle.std.specs.Prelude.{◌≡◌, ℕ, List, [], ◌∷◌, Option, Some, None, true}
use Rattle.raft_log_engine.specs.raft_log_fs.specs.Disk.{Disk}
use Rattle.raft_log_engine.specs.raft_log_record_items.specs.Items.{put_item}
use Rattle.raft_log_engine.specs.raft_log_record_batches.specs.Batch.{Batch}
use Rattle.raft_log_engine.specs.raft_log_file_settings.specs.declared.config.Config.{Config}
use Rattle.raft_log_engine.specs.raft_log_memtables.specs.declared.mem_tables.MemTables.{MemTables}
use Rattle.raft_log_engine.specs.raft_log_block_cache.specs.declared.block_cache.BlockCache.{BlockCache}
use Rattle.raft_log_engine.specs.raft_log_dual_pipes.specs.Pipes.{LogPipes}
use Rattle.raft_log_engine.specs.raft_log_dual_pipes.specs.ClosingCalls.{ClosesSettled}
use Rattle.raft_log_engine.specs.raft_log_engine_laws.specs.EngineState.{LogDirectories, LogMap, EngineState, shows}
use Rattle.raft_log_engine.specs.raft_log_engine_laws.specs.Holding.{Represents}
use Rattle.raft_log_engine.specs.raft_log_engine_laws.specs.Reading.{ReadsValue}
use Rattle.raft_log_engine.specs.raft_log_engine_laws.specs.Writing.{Writes}
use Rattle.raft_log_engine.specs.raft_log_open.specs.Opening.{OpensDirectory}

-- A log was opened in the file system's state `old`. A batch that puts `value` at `key` of group `group` was written
-- with a sync. Then the key was read, and `found` is what the read returned. The log was closed with everything synced,
-- which left the state `new`. If nothing was pending in the opened log, `found` is `value`, whatever the log's contents
-- were.
pub record SavesInLog {F : Type 0} (disk : F → Disk) (tells : F → List ℕ → ℕ → Type 0) (config : Config)
    (group : ℕ) (key value : List ℕ) (old new : F) (found : Option (List ℕ)) : Type 0 where
  pub pipes : LogPipes
  pub tables : MemTables
  pub cache : BlockCache
  pub opens : OpensDirectory disk tells config old pipes tables
  pub batch : Batch
  pub says : batch.items ≡ put_item group key value ∷ []
  pub written : EngineState
  pub writes : Writes batch true (shows pipes tables cache) written
  pub reads : ReadsValue written group key found
  pub closes : ClosesSettled written.pipes (disk new)
  pub same : (home : LogDirectories) (m : LogMap) → Represents home (shows pipes tables cache) m [] → found ≡ Some value

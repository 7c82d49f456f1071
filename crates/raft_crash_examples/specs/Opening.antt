-- Opening a log, and what is then done with the engine.
use Rattle.std.specs.Prelude.{◌≡◌, ℕ, List, None}
use Rattle.raft_log_engine.specs.raft_log_fs.specs.Disk.{Disk}
use Rattle.raft_log_engine.specs.raft_log_file_settings.specs.declared.config.Config.{Config}
use Rattle.raft_log_engine.specs.raft_log_memtables.specs.declared.mem_tables.MemTables.{MemTables}
use Rattle.raft_log_engine.specs.raft_log_block_cache.specs.declared.block_cache.BlockCache.{BlockCache}
use Rattle.raft_log_engine.specs.raft_log_dual_pipes.specs.Pipes.{LogPipes}
use Rattle.raft_log_engine.specs.raft_log_engine_laws.specs.EngineState.{EngineState, shows}
use Rattle.raft_log_engine.specs.raft_log_open.specs.Opening.{OpensDirectory}

-- The log of these settings was opened as the engine `engine`, with no cached block.
pub record Opens {F : Type 0} (disk : F → Disk) (tells : F → List ℕ → ℕ → Type 0) (config : Config) (old : F)
    (engine : EngineState) : Type 0 where
  pub pipes : LogPipes
  pub tables : MemTables
  pub cache : BlockCache
  pub empty : cache.place ≡ None
  pub opens : OpensDirectory disk tells config old pipes tables
  pub is : engine ≡ shows pipes tables cache

-- The log of these settings was opened as the engine `opened`, and then `does` holds of this engine.
pub record OpensAnd {F : Type 0} (disk : F → Disk) (tells : F → List ℕ → ℕ → Type 0) (config : Config) (old : F)
    (does : EngineState → Type 0) : Type 0 where
  pub opened : EngineState
  pub opens : Opens disk tells config old opened
  pub done : does opened

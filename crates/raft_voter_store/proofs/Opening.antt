-- A store that isn't opened.
use Rattle.std.proofs.Common.{◌≡◌, false, List, ℕ, None, refl}
use Rattle.raft_log_fs.specs.Disk.{Disk}
use Rattle.raft_log_engine.specs.raft_log_file_settings.specs.declared.config.Config.{Config}
use Rattle.raft_log_engine.specs.raft_log_memtables.specs.declared.mem_tables.MemTables.{MemTables}
use Rattle.raft_log_engine.specs.raft_log_block_cache.specs.declared.block_cache.BlockCache.{BlockCache}
use Rattle.raft_log_engine.specs.raft_log_dual_pipes.specs.ClosingCalls.{ClosesLog}
use Rattle.raft_log_engine.specs.raft_log_dual_pipes.specs.Pipes.{LogPipes}
use Rattle.raft_log_engine.specs.raft_log_open.specs.Opening.{OpensDirectory}
use Rattle.raft_log_engine.specs.raft_log_engine_laws.specs.Fetching.{StaysButBlock}
use Rattle.raft_log_engine.specs.raft_log_engine_laws.specs.EngineState.{EngineState, has_failed, shows}
use Rattle.raft_voter_recovery.specs.Reading.{IsUnreadFor}
use Rattle.raft_voter_recovery.specs.declared.unread.Unread.{Unread}
use Rattle.raft_voter_store.specs.Opening.{FailsToOpenVoters}
use Rattle.raft_voter_store.specs.Opening.FailsToOpenVoters.{unread}

-- its voters weren't read of the engine that was opened, which was closed again
pub closes_unread : {F : Type 0} (disk : F → Disk) (tells : F → List ℕ → ℕ → Type 0) (config : Config) (cause : Unread) (old back : F) (pipes : LogPipes) (tables : MemTables) (cache : BlockCache) (after : EngineState)
    → OpensDirectory disk tells config old pipes tables → cache.place ≡ None → IsUnreadFor cause (shows pipes tables cache) → StaysButBlock (shows pipes tables cache) after → (has_failed after ≡ false → ClosesLog after.pipes (disk back))
    → FailsToOpenVoters disk tells config cause old back
closes_unread disk tells config cause old back pipes tables cache after opens none why stays closes = unread (record {
  engine = shows pipes tables cache;
  opens = record { pipes = pipes; tables = tables; cache = cache; opens = opens; none = none; is = refl };
  unread = why;
  after = after;
  stays = stays;
  closes = closes;
})

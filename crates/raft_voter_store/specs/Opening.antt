-- How opening a store over its log ends. A store keeps the outline of each voter: the voter without its entries' data.
use Rattle.std.specs.Prelude.{◌≡◌, ℕ, false, List, None}
use Rattle.raft_log_fs.specs.Disk.{Disk}
use Rattle.raft_log_record_base.specs.declared.errors.Error.{Error}
use Rattle.raft_log_engine.specs.raft_log_file_settings.specs.declared.config.Config.{Config}
use Rattle.raft_log_engine.specs.raft_log_memtables.specs.declared.mem_tables.MemTables.{MemTables}
use Rattle.raft_log_engine.specs.raft_log_block_cache.specs.declared.block_cache.BlockCache.{BlockCache}
use Rattle.raft_log_engine.specs.raft_log_dual_pipes.specs.ClosingCalls.{ClosesLog}
use Rattle.raft_log_engine.specs.raft_log_dual_pipes.specs.Pipes.{LogPipes}
use Rattle.raft_log_engine.specs.raft_log_open.specs.Opening.{FailsToOpenDirectory, OpensDirectory}
use Rattle.raft_log_engine.specs.raft_log_engine_laws.specs.Fetching.{StaysButBlock}
use Rattle.raft_log_engine.specs.raft_log_engine_laws.specs.EngineState.{EngineState, has_failed, shows}
use Rattle.raft_voter_outline.specs.State.{State}
use Rattle.raft_voter_recovery.specs.Reading.{IsUnreadFor, ReadsVoters, cause_of}
use Rattle.raft_voter_recovery.specs.declared.unread.Unread.{Unread}

-- the log of the settings `config` was opened from the files `old`; the engine over it has the state `s`, and no cached
-- block
pub record OpensEngine {F : Type 0} (disk : F → Disk) (tells : F → List ℕ → ℕ → Type 0) (config : Config)
    (old : F) (s : EngineState) : Type 0 where
  pub pipes : LogPipes
  pub tables : MemTables
  pub cache : BlockCache
  pub opens : OpensDirectory disk tells config old pipes tables
  pub none : cache.place ≡ None
  pub is : s ≡ shows pipes tables cache

-- The log of the settings `config` was opened from the files `old`, and its voters were read. The store's engine has
-- the state `t` after that. The outlines of the voters are `os`.
pub record OpensVoters {F : Type 0} (disk : F → Disk) (tells : F → List ℕ → ℕ → Type 0) (config : Config)
    (old : F) (t : EngineState) (os : ℕ → State) : Type 0 where
  pub engine : EngineState
  pub opens : OpensEngine disk tells config old engine
  pub reads : ReadsVoters engine os
  pub stays : StaysButBlock engine t

-- The log of the settings `config` was opened from the files `old`, but reading its voters failed with `cause`. Unless
-- the engine had failed, its log was closed. The files are `back` after that.
pub record ClosesUnread {F : Type 0} (disk : F → Disk) (tells : F → List ℕ → ℕ → Type 0) (config : Config)
    (cause : Unread) (old back : F) : Type 0 where
  pub engine : EngineState
  pub opens : OpensEngine disk tells config old engine
  pub unread : IsUnreadFor cause engine
  pub after : EngineState
  pub stays : StaysButBlock engine after
  pub closes : has_failed after ≡ false → ClosesLog after.pipes (disk back)

-- Opening a store from the files `old` failed with `cause`, and returned the files `back`:
-- - `unopened`: opening the log failed
-- - `unread`: reading the voters failed
pub data FailsToOpenVoters {F : Type 0} (disk : F → Disk) (tells : F → List ℕ → ℕ → Type 0) (config : Config)
    (cause : Unread) (old back : F) : Type 0 where
  unopened : (error : Error) → cause ≡ cause_of error
      → FailsToOpenDirectory disk tells config error old back
      → FailsToOpenVoters disk tells config cause old back
  unread : ClosesUnread disk tells config cause old back
      → FailsToOpenVoters disk tells config cause old back

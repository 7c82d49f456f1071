-- An engine's log with nothing pending in either queue, as a purge needs it before it deletes files.
use Rattle.std.specs.Prelude.{◌≡◌, List}
use Rattle.raft_log_machine_laws.specs.Log.{IsSettled}
use Rattle.raft_log_block_cache.specs.raft_log_dual_pipes.specs.State.{Ties}
use Rattle.raft_log_block_cache.specs.raft_log_memtables.specs.Views.{AreMeant, view_of}
use Rattle.raft_log_block_cache.specs.Stored.{AreStored, entries_at}
use Rattle.raft_log_block_cache.specs.raft_log_dual_pipes.specs.Pipes.{RunsOn, State}
use Rattle.raft_log_block_cache.specs.Blocks.{IsOfLog}
use Rattle.raft_log_engine_laws.specs.EngineState.{LogDirectories, KeepsOrForgets, LogMap, EngineState, log_in, sense}
use Rattle.raft_log_engine_laws.specs.Holding.{FilesRiseIn, NotesEndIn}

-- The log of engine `e` is in the directories `home`. Its contents are `m`, and nothing is pending in Append or in
-- Rewrite. The other fields are as in `Represents`.
pub record HoldsSettled (home : LogDirectories) (e : EngineState) (m : LogMap) : Type 0 where
  pub state : State
  pub map : LogMap
  pub runs : RunsOn (sense home) e.pipes state
  pub stored : AreStored state e.tables
  pub rises : FilesRiseIn state e.tables
  pub noted : NotesEndIn state e.tables
  pub meant : AreMeant (entries_at state) e.tables map
  pub cached : IsOfLog state e.cache
  pub at : IsSettled (Ties (log_in home) state) (view_of e.tables map) m

-- from `e` to `t`, the tables are unchanged; the cached block stayed the same, or no block is cached any more
pub record SameTables (e t : EngineState) : Type 0 where
  pub tables : t.tables ≡ e.tables
  pub cache : KeepsOrForgets e t

-- Which contents an engine's log has: durable ones, and pending batches, which were written after them and not yet
-- synced. No code stores either. A law on a call holds for any durable contents and pending batches that the log had
-- before the call.
use Rattle.std.specs.Prelude.{◌≡◌, ◌≤◌, ℕ, List, ◌++◌, Some}
use Rattle.raft_log_model_laws.specs.Groups.{taken}
use Rattle.raft_log_fs.specs.Disk.{Disk}
use Rattle.raft_log_machine_laws.specs.Log.{IsAt, View}
use Rattle.raft_log_block_cache.specs.raft_log_dual_pipes.specs.State.{Ties}
use Rattle.raft_log_block_cache.specs.raft_log_dual_pipes.specs.OpenOrClosed.{OpenPipes}
use Rattle.raft_log_block_cache.specs.raft_log_dual_pipes.specs.Failing.{LogEndsLying}
use Rattle.raft_log_memtable_index.specs.declared.group_files.GroupFiles.{GroupFiles}
use Rattle.raft_log_memtable_index.specs.Shown.{Shown}
use Rattle.raft_log_memtable_index.specs.Noted.{FilesRise}
use Rattle.raft_log_block_cache.specs.raft_log_memtables.specs.Views.{AreMeant, view_of}
use Rattle.raft_log_block_cache.specs.Stored.{AreStored, entries_at}
use Rattle.raft_log_block_cache.specs.raft_log_dual_pipes.specs.Pipes.{LogPipes, RunsOn, LogRecordValue, State}
use Rattle.raft_log_block_cache.specs.Blocks.{IsOfLog}
use Rattle.raft_log_engine_laws.specs.EngineState.{LogDirectories, LogMap, EngineState, log_in, sense}

-- In each queue, the file numbers of a group's entries never fall as the index rises. None is above that of the
-- queue's last file.
abbrev pub FilesRiseIn : State → (ℕ → Shown) → Type 0
FilesRiseIn s v = (g : ℕ) → FilesRise s.append.files.last s.rewrite.files.last (v g)

-- no file that the tables note for an atomic group is after the last file of Rewrite
abbrev pub NotesEndIn : State → (ℕ → Shown) → Type 0
NotesEndIn s v =
    (g : ℕ) (files : GroupFiles) → (v g).noted ≡ Some files → files.to ≤ s.rewrite.files.last

-- The log of engine `e` is in the directories `home`. Its durable contents are `m`, and the batches `pending` are
-- written after them, not yet synced:
-- - its pipes run over that log
-- - each location that its tables have is that of an entry in the log
-- - in each queue, the file numbers of a group's entries never fall as the index rises
-- - no file that is noted for an atomic group is after the last file of Rewrite
-- - its tables, with the bytes at their locations, give the contents after the pending batches
-- - the cached block has the bytes that were written at its location
pub record Represents (home : LogDirectories) (e : EngineState) (m : LogMap) (pending : List LogRecordValue) : Type 0 where
  pub state : State
  pub map : LogMap
  pub runs : RunsOn (sense home) e.pipes state
  pub stored : AreStored state e.tables
  pub rises : FilesRiseIn state e.tables
  pub noted : NotesEndIn state e.tables
  pub meant : AreMeant (entries_at state) e.tables map
  pub cached : IsOfLog state e.cache
  pub at : IsAt (Ties (log_in home) state) (view_of e.tables map) m pending

-- The pipes run over a log in these directories. Its durable contents are `m`, and the batches `pending` are written
-- after them, not yet synced. This says nothing of the engine's tables.
pub record RunsAs (home : LogDirectories) (v : LogPipes) (m : LogMap) (pending : List LogRecordValue) : Type 0 where
  pub state : State
  pub view : View (List ℕ) (List ℕ)
  pub runs : RunsOn (sense home) v state
  pub at : IsAt (Ties (log_in home) state) view m pending

-- The pipes run over a log in these directories. Its durable contents are `m` and then `done`, a prefix of the batches
-- `pending`. The other batches, `rest`, are written after them and not synced.
pub record RunsEnding (home : LogDirectories) (v : LogPipes) (m : LogMap) (pending : List LogRecordValue) : Type 0 where
  pub done : List LogRecordValue
  pub rest : List LogRecordValue
  pub splits : done ++ rest ≡ pending
  pub runs : RunsAs home v (taken m done) rest

-- The durable contents of engine `e`'s log are `m` and then `done`, a prefix of the batches `pending`. The other
-- batches, `rest`, are written after them and not synced.
pub record EndsAt (home : LogDirectories) (e : EngineState) (m : LogMap) (pending : List LogRecordValue) : Type 0 where
  pub done : List LogRecordValue
  pub rest : List LogRecordValue
  pub splits : done ++ rest ≡ pending
  pub holds : Represents home e (taken m done) rest

-- The log's files on disk `d` can be opened. They hold the contents `m` and then the batches `pending`. A prefix of
-- these batches may be durable; the others are pending.
abbrev pub IsRecoverableAs : LogDirectories → Disk → LogMap → List LogRecordValue → Type 0
IsRecoverableAs home d m pending = (open_ones : OpenPipes) × LogEndsLying (log_in home) open_ones d m pending

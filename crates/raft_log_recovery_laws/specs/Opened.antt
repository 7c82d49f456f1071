-- An engine whose tables were built from what recovery read.
use Rattle.std.specs.Prelude.{◌≡◌, List, [], None}
use Rattle.raft_log_record_base.specs.declared.pipe_log.LogQueue.TheVariants.{Append, Rewrite}
use Rattle.raft_log_engine_laws.specs.raft_log_memtables.specs.declared.mem_tables.MemTables.{MemTables}
use Rattle.raft_log_replay.specs.Machines.{Batch}
use Rattle.raft_log_replay_context.specs.Records.{ReadRecord}
use Rattle.raft_log_replay_context.specs.Context.{ComesOver, HasRead}
use Rattle.raft_log_replay_context.specs.Batches.{HasReadBatches}
use Rattle.raft_log_replay_context.specs.declared.context.MemTableRecoverContext.{MemTableRecoverContext}
use Rattle.raft_log_machine_laws.specs.Log.{IsLog}
use Rattle.raft_log_dual_pipes.specs.State.{Ties}
use Rattle.raft_log_dual_pipes.specs.Reopening.{ReadsBothAgain}
use Rattle.raft_log_dual_pipes.specs.Pipes.{LogPipes, RunsOn, State}
use Rattle.raft_log_engine_laws.specs.raft_log_block_cache.specs.declared.block_cache.BlockCache.{BlockCache}
use Rattle.raft_log_engine_laws.specs.EngineState.{LogDirectories, LogMap, log_in, sense, shows}
use Rattle.raft_log_engine_laws.specs.Holding.{Represents}
use Rattle.raft_log_recovery_laws.specs.Reading.{AreOfQueue}

-- `tables` were made by merging two recovery contexts: the one that read `append_batches` from Append, over the one
-- that read `rewrite_batches` from Rewrite.
pub record AreMerged (append_batches rewrite_batches : List Batch) (tables : MemTables) : Type 0 where
  pub append : MemTableRecoverContext
  pub rewrite : MemTableRecoverContext
  pub append_read : HasReadBatches Append append_batches append
  pub rewrite_read : HasReadBatches Rewrite rewrite_batches rewrite
  pub over : (first behind : List ReadRecord) → HasRead Rewrite first rewrite → HasRead Append behind append
      → ComesOver first behind tables

-- `was` is a log before it was read again. The pipes `v` run over the log as it was read, and `tables` were merged from
-- the batches of all its files.
pub record IsOpenedOver (home : LogDirectories) (was : State) (v : LogPipes) (tables : MemTables) : Type 0 where
  pub state : State
  pub runs : RunsOn (sense home) v state
  pub again : ReadsBothAgain (Ties (log_in home)) was state
  pub append_batches : List Batch
  pub rewrite_batches : List Batch
  pub of_append : AreOfQueue Append state.append append_batches
  pub of_rewrite : AreOfQueue Rewrite state.rewrite rewrite_batches
  pub merged : AreMerged append_batches rewrite_batches tables

-- An engine with these pipes and tables, and with no cached block, has a log with the contents `m` and nothing pending.
abbrev pub HoldsFresh : LogDirectories → LogPipes → MemTables → LogMap → Type 0
HoldsFresh home v tables m =
    (cache : BlockCache) → cache.place ≡ None → Represents home (shows v tables cache) m []

-- The log `was` had the contents `m` and nothing pending. It was read again and opened as these pipes and tables. Then
-- the engine has the contents `m`, with nothing pending.
abbrev pub OpenedEnginesHold : Type 0
OpenedEnginesHold = (home : LogDirectories) (was : State) (m : LogMap) (v : LogPipes) (tables : MemTables)
    → IsLog (Ties (log_in home) was) m [] → IsOpenedOver home was v tables → HoldsFresh home v tables m

-- An engine's state as the laws see it, and how its log's records are read.
use Rattle.std.specs.Prelude.{◌≡◌, ◌⊎◌, ℕ, Bool, List, [], None, unwrap_or, length}
use Rattle.raft_log_model_laws.specs.Item.{Record}
use Rattle.raft_log_model_laws.specs.Item.Record.{Plain}
use Rattle.raft_log_model_laws.specs.Groups.{Map}
use Rattle.raft_log_record_base.specs.declared.pipe_log.LogQueue.TheVariants.{Append}
use Rattle.raft_log_record_base.specs.declared.pipe_log.FileBlockHandle.{FileBlockHandle}
use Rattle.raft_log_record_items.specs.Placed.{entries_len, laid_out, placed}
use Rattle.raft_log_record_frames.specs.Record.{block_bytes}
use Rattle.raft_log_record_frames.specs.declared.marking.Marking.TheVariants.{Broken}
use Rattle.raft_log_record_frames.specs.Marking.{marking_of_items}
use Rattle.raft_log_record_frames.specs.Meaning.{record_of, tagged_items}
use Rattle.raft_log_record_batches.specs.declared.log_batch.BatchState.{BatchState}
use Rattle.raft_log_record_batches.specs.declared.log_batch.BatchState.TheVariants.{Filling, Populated, Signed, Written}
use Rattle.raft_log_record_batches.specs.Batch.{Batch}
use Rattle.raft_log_record_batches.specs.Places.{entry_bytes}
use Rattle.raft_log_active_file.specs.declared.record.LogRecord.{LogRecord}
use Rattle.raft_log_memtable_index.specs.Shown.{Shown}
use Rattle.raft_log_block_cache.specs.raft_log_memtables.specs.declared.mem_tables.MemTables.{MemTables}
use Rattle.raft_log_block_cache.specs.raft_log_memtables.specs.Tables.{counts, shown_of}
use Rattle.raft_log_block_cache.specs.raft_log_dual_pipes.specs.Queues.{TwoQueues}
use Rattle.raft_log_block_cache.specs.raft_log_dual_pipes.specs.Pipes.{LogPipes, LogSense, LogRecordValue, is_failed, queues}
use Rattle.raft_log_block_cache.specs.declared.block_cache.BlockCache.{BlockCache}
use Rattle.raft_log_record_base.specs.Files.{no_block}

-- The contents of a log: for each group, the bytes of its entry at each index, and the value of each key.
abbrev pub LogMap : Type 0
LogMap = Map (List ℕ) (List ℕ)

-- An engine's state: what its tables show of each group, which groups count, its pipes, and its cached entry block. A
-- group counts if it has had items and the last one wasn't a Clean.
pub record EngineState : Type 0 where
  pub tables : ℕ → Shown
  pub counts : ℕ → Bool
  pub pipes : LogPipes
  pub cache : BlockCache

-- the state of an engine with these pipes, tables and cached block
abbrev pub shows : LogPipes → MemTables → BlockCache → EngineState
shows v tables cache = record { tables = shown_of tables; counts = counts tables; pipes = v; cache = cache }

-- from `s` to `t`, the cached block stayed the same, or no block is cached any more
abbrev pub KeepsOrForgets : EngineState → EngineState → Type 0
KeepsOrForgets s t = (t.cache ≡ s.cache) ⊎ (t.cache.place ≡ None)

-- whether the engine has failed: a file system call failed, and what that call did could not be undone
abbrev pub has_failed : EngineState → Bool
has_failed e = is_failed e.pipes

-- the directories of each queue's files
pub record LogDirectories : Type 0 where
  pub append : List (List ℕ)
  pub rewrite : List (List ℕ)

-- What a record says when it is read, with the bytes of each entry. If its marks of an atomic group are broken, its
-- items count as if it had no marks. No engine writes such a record.
abbrev pub said_by : LogRecord → LogRecordValue
said_by r = unwrap_or (record_of (entry_bytes (block_bytes r.entries)) (placed no_block r.items))
    (Plain (tagged_items (entry_bytes (block_bytes r.entries)) (placed no_block r.items)))

-- the log in the directories `home`: what its records say, and where its files are
abbrev pub sense : LogDirectories → LogSense
sense home = record { says = said_by; append = home.append; rewrite = home.rewrite }

-- the two queues of the log in the directories `home`
abbrev pub log_in : LogDirectories → TwoQueues LogRecord (List ℕ) (List ℕ)
log_in home = queues (sense home)

-- what the record of a batch says, with the bytes that were added for each entry; nothing if its marks are broken
abbrev pub said_of : Batch → LogRecordValue
said_of b = unwrap_or (record_of (entry_bytes b.entries) b.items) (Plain [])

-- the batch's entries fill its bytes one after another, with no bytes left
pub record IsLaidOut (b : Batch) : Type 0 where
  pub laid : laid_out 0 b.items ≡ b.items
  pub adds : entries_len b.items ≡ length b.entries

-- the batch's marks aren't broken: it has at most one mark of an atomic group, and this mark is valid
abbrev pub IsWellMarked : Batch → Type 0
IsWellMarked b = marking_of_items b.items ≡ Broken → ⊥

-- A batch in this state may be written. Its record may be encoded already, but it is neither signed for a file nor
-- written yet.
abbrev pub IsWritable : BatchState → Type 0
IsWritable Filling = Unit {0}
IsWritable Populated = Unit {0}
IsWritable (Signed signature) = ⊥
IsWritable Written = ⊥

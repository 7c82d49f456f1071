-- A purge writes the owed tombstones to Rewrite. The names of these definitions call a tombstone a mark. The marks of
-- an atomic group are something else.
use Rattle.std.specs.Prelude.{◌≡◌, ℕ, Bool, false, List, []}
use Rattle.raft_log_fs.specs.Causes.{IsLater}
use Rattle.raft_log_record_base.specs.declared.errors.Error.{Error}
use Rattle.raft_log_record_items.specs.declared.item.LogItem.{LogItem}
use Rattle.raft_log_memtable_index.specs.Shown.{Shown}
use Rattle.raft_log_memtable_index.specs.Bridge.{unmarked}
use Rattle.raft_log_memtables.specs.declared.mem_tables.MemTables.{MemTables}
use Rattle.raft_log_memtables.specs.Owing.{AreOwed}
use Rattle.raft_log_memtables.specs.Tables.{shown_of}
use Rattle.raft_log_dual_pipes.specs.Pipes.{LogPipes, is_failed}
use Rattle.raft_log_block_cache.specs.declared.block_cache.BlockCache.{BlockCache}
use Rattle.raft_log_engine_laws.specs.EngineState.{LogDirectories, LogMap, EngineState, has_failed, shows}
use Rattle.raft_log_engine_laws.specs.Holding.{Represents}
use Rattle.raft_log_engine_laws.specs.Settled.{HoldsSettled}
use Rattle.raft_log_purge_copy.specs.Parts.{PartIsRefused, StaysInFile}

-- the state of an engine with these pipes, what its tables show, which groups count, and its cached block
abbrev pub showing : LogPipes → (ℕ → Shown) → (ℕ → Bool) → BlockCache → EngineState
showing v tables counts cache = record { tables = tables; counts = counts; pipes = v; cache = cache }

-- The tombstones that these tables owe were written to Rewrite; the pipes were `v` before, and are `w` now. If the log
-- had the contents `m` with no batch pending, it still has them, and the tables owe no tombstone any more.
pub record WritesMarks (tables : ℕ → Shown) (v w : LogPipes) : Type 0 where
  pub alive : is_failed v ≡ false → is_failed w ≡ false
  pub later : IsLater v.disk w.disk
  pub stays : StaysInFile v w
  pub holds : (counts : ℕ → Bool) (cache : BlockCache) (home : LogDirectories) (m : LogMap)
      → Represents home (showing v tables counts cache) m []
      → Represents home (showing w (λ g. unmarked (tables g)) counts cache) m []

-- if `items` are the tombstones that the tables owe, the pipes wrote them to Rewrite, and went from `v` to `w`
abbrev pub WritesItems : List LogItem → LogPipes → LogPipes → Type 0
WritesItems items v w = (m : MemTables) → AreOwed m items → WritesMarks (shown_of m) v w

-- Writing `items` to Rewrite failed with `error`, and took the pipes from `v` to `w`. This states nothing if `items`
-- aren't the tombstones that the tables owe.
abbrev pub ItemsAreRefused : List LogItem → Error → LogPipes → LogPipes → Type 0
ItemsAreRefused items error v w = (m : MemTables) → AreOwed m items → (cache : BlockCache)
    → PartIsRefused error (shows v m cache) (shows w m cache)

-- The owed tombstones were written to Rewrite and synced, and no group owes one any more. If no batch was pending, the
-- log has the same contents, and nothing is pending in either queue.
pub record CarriesMarks (s t : EngineState) : Type 0 where
  pub alive : has_failed t ≡ false
  pub tables : t.tables ≡ (λ g. unmarked (s.tables g))
  pub counts : t.counts ≡ s.counts
  pub cache : t.cache ≡ s.cache
  pub later : IsLater s.pipes.disk t.pipes.disk
  pub stays : StaysInFile s.pipes t.pipes
  pub settles : (home : LogDirectories) (m : LogMap) → Represents home s m [] → HoldsSettled home t m

-- Files of Append that no listener pins.
use Rattle.std.specs.Prelude.{ℕ, List, Option, None}
use Rattle.raft_log_memtables.specs.declared.mem_tables.MemTables.{MemTables}
use Rattle.raft_log_dual_pipes.specs.HoldingBack.{NothingIsHeldBack}
use Rattle.raft_log_dual_pipes.specs.Pipes.{LogPipes}
use Rattle.raft_log_purge_copy.specs.raft_log_engine_laws.specs.EngineState.{EngineState}
use Rattle.raft_log_purge_policy.specs.Watermarks.{TakesAppend}
use Rattle.raft_log_purge_policy.specs.declared.thresholds.Thresholds.{Thresholds}
use Rattle.raft_log_purge.specs.declared.expired_files.PurgeCounts.{PurgeCounts}
use Rattle.raft_log_purge.specs.Expired.{LosesBelow}
use Rattle.raft_log_purge.specs.ExpiredFiles.{PurgesExpired}

-- Suppose that no file is pinned, and Append is past its threshold after the compaction of Rewrite, if there was one.
-- Then the last step of a purge is `LosesBelow` without a pinned file. If nothing is pending before this step, each
-- file below both the active file and the first file in use leaves Append's live range. A file is in use if a group has
-- an entry or value in it.
abbrev pub FreeFilesGo : (LogPipes → Option ℕ → Type 0) → Type 0
FreeFilesGo hold_back = NothingIsHeldBack hold_back → (thresholds : Thresholds) (before after : MemTables)
    (old new : PurgeCounts) (groups : List ℕ) (s t : EngineState)
    → (purged : PurgesExpired hold_back thresholds before after old new groups s t)
    → TakesAppend thresholds purged.pipes → (copied : EngineState) × LosesBelow None after copied t

-- The counts of Rewrite after a compaction of Rewrite failed. What was restated (copied) before the failure has an old
-- copy, which is garbage.
use Rattle.std.specs.Prelude.{◌≡◌, ◌⊎◌, ◌<◌, ◌≤◌, ℕ, List, [], ◌∷◌, Option, Some, None}
use Rattle.raft_log_record_base.specs.declared.pipe_log.LogQueue.TheVariants.{Rewrite}
use Rattle.raft_log_machine_laws.specs.Calls.Which.{InRewrite}
use Rattle.raft_log_memtable_index.specs.Shown.{Shown}
use Rattle.raft_log_memtable.specs.Files.{IsMinFile}
use Rattle.raft_log_memtable.specs.Reads.{StandIn}
use Rattle.raft_log_memtable.specs.Stats.{added, deleted, plus}
use Rattle.raft_log_memtable.specs.declared.global_stats.GlobalStats.{GlobalStats}
use Rattle.raft_log_memtables.specs.Tables.{has_table}
use Rattle.raft_log_memtables.specs.Walking.{ListsGroups}
use Rattle.raft_log_memtables.specs.declared.mem_tables.MemTables.{MemTables}
use Rattle.raft_log_dual_pipes.specs.Calls.{RotatesQueue}
use Rattle.raft_log_dual_pipes.specs.Pipes.{LogPipes}
use Rattle.raft_log_purge_copy.specs.raft_log_engine_laws.specs.EngineState.{EngineState}
use Rattle.raft_log_purge_copy.specs.Restated.{last_file}
use Rattle.raft_log_purge.specs.RewriteQueue.{RestatesAll, reset_counts}

-- `n` of a group's live entries and values in Rewrite count as restated. These are all, if the group's lowest file of
-- Rewrite (`least`) is after `file`; else none. `v` is the group's table.
abbrev pub CountsFrom : ℕ → Option ℕ → Shown → ℕ → Type 0
CountsFrom file None v n = n ≡ 0
CountsFrom file (Some least) v n = ((file < least) × StandIn v n) ⊎ ((least ≤ file) × (n ≡ 0))

-- if all live entries and values that the group has in Rewrite are in files after `file`, `n` is their number, else 0
abbrev pub StandsPast : ℕ → Shown → ℕ → Type 0
StandsPast file v n = (least : Option ℕ) × IsMinFile Rewrite v least × CountsFrom file least v n

-- `n` is the sum of the numbers of `StandsPast` over these groups, or 2 ^ 64 - 1 if the sum is greater
abbrev pub CountsPast : ℕ → (ℕ → Shown) → List ℕ → ℕ → Type 0
CountsPast file v [] n = n ≡ 0
CountsPast file v (g ∷ gs) n =
    (one rest : ℕ) × StandsPast file (v g) one × CountsPast file v gs rest × (n ≡ plus one rest)

-- `count` live entries and values of these groups count as restated (`CountsPast`). This number was added to what was
-- written to Rewrite, and to the garbage there.
pub record CountsGarbage (file : ℕ) (v : ℕ → Shown) (groups : List ℕ) (old new : GlobalStats) : Type 0 where
  pub count : ℕ
  pub past : CountsPast file v groups count
  pub stats : new ≡ deleted Rewrite count (added Rewrite count old)

-- A compaction of Rewrite got as far as its sync: Rewrite rotated, all groups were restated, and Rewrite was synced.
-- The tables are those after these steps. The counts were reset (`reset_counts`).
pub record ResetsCounts (old new : GlobalStats) (s t : EngineState) : Type 0 where
  pub turned : LogPipes
  pub turns : RotatesQueue InRewrite s.pipes turned
  pub restated : EngineState
  pub restates : RestatesAll (record s { pipes = turned }) restated
  pub tables : t.tables ≡ restated.tables
  pub stats : new ≡ reset_counts old

-- The counts after a compaction of Rewrite failed; `before` are the tables before it. One of three is true:
-- - The counts are unchanged, and so are the tables.
-- - The number of restated entries and values was added to what was written, and to the garbage. What a group has
--   counts as restated if all of it is after the file that was active at the start (`CountsPast`).
-- - All groups were restated, and the counts were reset.
abbrev pub CountsRefused : MemTables → GlobalStats → GlobalStats → EngineState → EngineState → Type 0
CountsRefused before old new s t = ((t.tables ≡ s.tables) × (new ≡ old))
    ⊎ (((groups : List ℕ) × ListsGroups (has_table before) groups
    × CountsGarbage (last_file s) t.tables groups old new)
    ⊎ ResetsCounts old new s t)

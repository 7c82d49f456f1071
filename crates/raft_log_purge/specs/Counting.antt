-- What a purge counts in Rewrite, for the next purge: how many entries and values were written there, and how many of
-- these are garbage. `old` and `new` are the counts before and after.
use Rattle.std.specs.Prelude.{◌≡◌, ◌-◌, ℕ, Bool, true, false}
use Rattle.raft_log_record_base.specs.declared.pipe_log.LogQueue.TheVariants.{Rewrite}
use Rattle.raft_log_memtable.specs.declared.global_stats.GlobalStats.{GlobalStats}
use Rattle.raft_log_memtable.specs.Stats.{added, deleted, live}
use Rattle.raft_log_memtables.specs.Walking.{Stand}
use Rattle.raft_log_memtables.specs.declared.mem_tables.MemTables.{MemTables}
use Rattle.raft_log_purge.specs.declared.expired_files.PurgeCounts.{PurgeCounts}

-- The counts if `n` entries and values are live in Rewrite. If more are live than were counted as live, the difference
-- counts as written; if fewer, the difference counts as garbage.
abbrev pub counted : ℕ → GlobalStats → GlobalStats
counted n s = deleted Rewrite (live Rewrite s - n) (added Rewrite (n - live Rewrite s) s)

-- the counts were updated with the number of entries and values that are live in Rewrite by the tables `m`
pub record CountsStanding (m : MemTables) (old new : PurgeCounts) : Type 0 where
  pub standing : ℕ
  pub stands : Stand m standing
  pub stats : new.stats ≡ counted standing old.stats
  pub rounds : new.rounds ≡ old.rounds
  pub number : new.number ≡ old.number

-- if the flag is true, the counts were updated with what is live in Rewrite; else they are unchanged
abbrev pub CountsIf : Bool → MemTables → PurgeCounts → PurgeCounts → Type 0
CountsIf true m old new = CountsStanding m old new
CountsIf false m old new = new ≡ old

-- the counts were updated twice: with what is live in Rewrite by the tables `before`, and then by the tables `after`
pub record CountsTwice (before after : MemTables) (old new : PurgeCounts) : Type 0 where
  pub between : PurgeCounts
  pub first : CountsStanding before old between
  pub second : CountsStanding after between new

-- Counts of entries in the queues. They stop at 0 and at 2 ^ 64 - 1 instead of overflowing.
use Rattle.std.specs.Prelude.{ℕ, ◌+◌, ◌-◌, ◌^◌, min}
use Rattle.raft_log_record_base.specs.declared.pipe_log.LogQueue.{LogQueue}
use Rattle.raft_log_record_base.specs.declared.pipe_log.LogQueue.TheVariants.{Append, Rewrite}
use Rattle.raft_log_memtable.specs.declared.global_stats.GlobalStats.{GlobalStats}

-- the counts without any entry
abbrev pub no_entries : GlobalStats
no_entries = record { live_append_entries = 0; rewrite_entries = 0; deleted_rewrite_entries = 0 }

-- the sum, at most 2 ^ 64 - 1
abbrev pub plus : ℕ → ℕ → ℕ
plus a b = min (a + b) (2 ^ 64 - 1)

-- the counts after `n` entries were added to the queue
abbrev pub added : LogQueue → ℕ → GlobalStats → GlobalStats
added Append n s = record s { live_append_entries = plus s.live_append_entries n }
added Rewrite n s = record s { rewrite_entries = plus s.rewrite_entries n }

-- The counts after `n` live entries of the queue were deleted. For Rewrite, only the count of deleted entries
-- changes.
abbrev pub deleted : LogQueue → ℕ → GlobalStats → GlobalStats
deleted Append n s = record s { live_append_entries = s.live_append_entries - n }
deleted Rewrite n s = record s { deleted_rewrite_entries = plus s.deleted_rewrite_entries n }

-- the number of live entries in the queue
abbrev pub live : LogQueue → GlobalStats → ℕ
live Append s = s.live_append_entries
live Rewrite s = s.rewrite_entries - s.deleted_rewrite_entries

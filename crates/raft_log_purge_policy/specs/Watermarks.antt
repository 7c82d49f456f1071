-- Which queues a purge collects, and up to which file. `v` are the log's pipes, and `t` the thresholds of the settings.
use Rattle.std.specs.Prelude.{◌≡◌, ◌⊎◌, ℕ, ◌*◌, ◌-◌, ◌<◌, min, Some}
use Rattle.raft_log_machine_laws.specs.Calls.{Which}
use Rattle.raft_log_machine_laws.specs.Calls.Which.{InAppend, InRewrite}
use Rattle.raft_log_memtable.specs.declared.global_stats.GlobalStats.{GlobalStats}
use Rattle.raft_log_dual_pipes.specs.State.{pipe_at}
use Rattle.raft_log_dual_pipes.specs.Pipes.{LogPipes, files_of}
use Rattle.raft_log_dual_pipes.specs.Calls.{seq_at, size_at}
use Rattle.raft_log_purge_policy.specs.declared.thresholds.Thresholds.{Thresholds}
use Rattle.raft_log_purge_policy.specs.declared.watermarks.Watermarks.{Watermarks}
use Rattle.raft_log_dual_pipes.specs.LastFile.{last_of}

-- the number of the first file in the live range of a queue
abbrev pub first_at : Which → LogPipes → ℕ
first_at which v = (pipe_at which (files_of v)).first_seq

-- The number of the first file after this share of Append's live range, in thousandths of its files. It is at most the
-- number before that of the active file.
abbrev pub watermark : ℕ → LogPipes → ℕ
watermark thousandths v = min (seq_at InAppend v thousandths 1000) (last_of InAppend v - 1)

-- The watermarks of a purge of Append. Files up to `rewrite`, the first file after 70 percent of the live range, are
-- rewritten. Files below `compact`, the first file after 20 percent, are old.
abbrev pub watermarks_of : LogPipes → Watermarks
watermarks_of v = record { rewrite = watermark 700 v; compact = watermark 200 v }

-- The queue's live range has more than one file, and would be larger than `threshold` bytes if each file had the target
-- size.
abbrev pub IsQueuePast : Which → ℕ → LogPipes → Type 0
IsQueuePast which threshold v = (first_at which v < last_of which v) × (threshold < size_at which v)

-- more than `ratio` thousandths of the entries and values that were written to Rewrite are no longer live
abbrev pub IsGarbage : ℕ → GlobalStats → Type 0
IsGarbage ratio stats = stats.rewrite_entries * ratio < stats.deleted_rewrite_entries * 1000

-- Append is past its threshold, so a purge collects it
abbrev pub TakesAppend : Thresholds → LogPipes → Type 0
TakesAppend t v = IsQueuePast InAppend t.append v

-- Append is past its threshold, or Rewrite past its own, so a purge may have something to do
abbrev pub IsAnyPast : Thresholds → LogPipes → Type 0
IsAnyPast t v = TakesAppend t v ⊎ ((threshold : ℕ) × (t.rewrite ≡ Some threshold) × IsQueuePast InRewrite threshold v)

-- a purge compacts Rewrite: the settings have a threshold for it, Rewrite is past that, and enough of what was written
-- to it is garbage
abbrev pub TakesRewrite : Thresholds → GlobalStats → LogPipes → Type 0
TakesRewrite t stats v = (threshold : ℕ) × (t.rewrite ≡ Some threshold)
    × IsQueuePast InRewrite threshold v × IsGarbage t.garbage_ratio stats

-- Where an entry is in a list of runs.
use Rattle.std.specs.Prelude.{◌≡◌, ℕ, ◌+◌, ◌*◌, ◌<◌, ◌≤◌, ◌^◌, true, List, length, take, slice_index_or}
use Rattle.raft_log_extents.specs.declared.run.Run.{Run}
use Rattle.raft_log_extents.specs.declared.spot.Spot.{Spot}
use Rattle.raft_log_extents.specs.Runs.{counts, total, width, widths}

-- `s` says where the entry at `position` is in the runs `rs`, whose starts are `starts` (`Runs.antt`). Its fields:
-- - `run`, `at`: the run that has the entry, and how many runs are before that run.
-- - `from`: how many starts are stored for these earlier runs.
-- - `within`: how many entries of the same run are before this entry.
-- `starts` also has the starts of that run. If the run is even, each entry in its block begins at an offset below 2 ^
-- 32.
pub record IsSpot (rs : List Run) (starts : List ℕ) (position : ℕ) (s : Spot) : Type 0 where
  pub there : s.at < length rs
  pub run_is : s.run ≡ slice_index_or rs s.at s.run
  pub from_is : s.from ≡ widths (take s.at rs)
  pub within_is : counts (take s.at rs) + s.within ≡ position
  pub within : s.within < total s.run
  pub enough : s.from + width s.run ≤ length starts
  pub fits : s.run.even ≡ true → (j : ℕ) → j < s.run.count → s.run.start + j * s.run.size < 2 ^ 32

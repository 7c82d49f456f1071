-- A table that has neither entries nor values.
use Rattle.std.specs.Prelude.{◌≡◌, ℕ, List, length, None}
use Rattle.raft_log_memtable_index.specs.Shown.{Shown}

-- the table has no entries and no values; it may still owe tombstones
pub record HasNothing (v : Shown) : Type 0 where
  pub entries : length v.places ≡ 0
  pub values : (k : List ℕ) → v.held k ≡ None

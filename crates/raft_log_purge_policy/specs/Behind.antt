-- The count of purges in a row that asked for a group to be compacted.
use Rattle.std.specs.Prelude.{ℕ, ◌+◌, Bool, ◌&&◌, nat_lt, if◌then◌else◌}

-- the count after one more purge: one more if that purge asked for the group and fewer than nine in a row had asked
-- before, otherwise 0
abbrev pub round_behind : Bool → ℕ → ℕ
round_behind asked count = if asked && nat_lt count 9 then count + 1 else 0

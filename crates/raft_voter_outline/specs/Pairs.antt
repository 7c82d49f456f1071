-- The voters of a list of outlines, each in a pair with its group's number.
use Rattle.std.specs.Prelude.{ℕ, List, Option, None}
use Rattle.std.specs.Map.{update_all}
use Rattle.std.specs.Ordering.{eq_by_cmp, nat_cmp}
use Rattle.raft_voter_outline.specs.Outlines.{Outlined}
use Rattle.raft_voter_outline.specs.State.{State}
use Rattle.raft_voter_outline.specs.Kept.{kept_or_fresh}

-- the outline of group `g` in this list: that of the last pair with `g`, if there is one
abbrev pub listed_of : List (ℕ × Outlined) → ℕ → Option Outlined
listed_of pairs g = update_all (eq_by_cmp nat_cmp) (λ h. None) pairs g

-- for each group, the voter of its outline in this list, or a fresh voter if the list has none
abbrev pub outlines_of : List (ℕ × Outlined) → ℕ → State
outlines_of pairs = λ g. kept_or_fresh (listed_of pairs g)

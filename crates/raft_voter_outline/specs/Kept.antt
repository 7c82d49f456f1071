-- The outlines that are kept for the voters of many groups. A group without one has a fresh voter.
use Rattle.std.specs.Prelude.{ℕ, Option, None, Some}
use Rattle.std.specs.BTreeMap.{get}
use Rattle.std.specs.Ordering.{nat_cmp}
use Rattle.raft_voter_outline.specs.Outlines.{Outlined}
use Rattle.raft_voter_outline.specs.State.{State, fresh}
use Rattle.raft_voter_outline.specs.declared.outlines.Outlines.{Outlines}

-- the outline that is kept for group `g`, if there is one
abbrev pub kept_of : Outlines → ℕ → Option Outlined
kept_of outlines g = get nat_cmp outlines.kept g

-- the kept outline's voter, or a fresh voter if no outline is kept
abbrev pub kept_or_fresh : Option Outlined → State
kept_or_fresh None = fresh
kept_or_fresh (Some o) = o.voter

-- for each group, the voter of its outline, or a fresh voter
abbrev pub outlines_in : Outlines → ℕ → State
outlines_in outlines = λ g. kept_or_fresh (kept_of outlines g)

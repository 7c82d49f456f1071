-- The voters of all groups in memory, as a world.
use Rattle.std.specs.Prelude.{◌≡◌, ◌⊎◌, ℕ, Bool, List, None, unwrap_or}
use Rattle.std.specs.BTreeMap.{get, is_at}
use Rattle.std.specs.List.{list_any}
use Rattle.std.specs.Ordering.{nat_cmp}
use Rattle.raft_voter.specs.declared.voters.Voters.{Voters}
use Rattle.raft_voter_messages.specs.declared.request.Request.{Request}
use Rattle.raft_voter_outline.specs.Outlines.{Copies}
use Rattle.raft_voter_outline.specs.State.{fresh}
use Rattle.raft_voter.specs.Rounds.{World}

-- the world of these voters: for each group its voter in the table, or a fresh one
abbrev pub world_of : Voters → World
world_of v = λ g. unwrap_or (get nat_cmp v.voters g) fresh

-- request `q` of group `g` needs memory: the group has no voter in the table yet, or `q` copies entries
abbrev pub NeedsMemory : Voters → ℕ → Request → Type 0
NeedsMemory v g q = (get nat_cmp v.voters g ≡ None) ⊎ Copies (world_of v g) q

-- `groups` has the number `g`
abbrev pub is_listed : List ℕ → ℕ → Bool
is_listed groups g = list_any (is_at (nat_cmp g)) groups

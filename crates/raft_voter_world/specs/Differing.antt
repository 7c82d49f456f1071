-- A set of the groups whose voters differ in two worlds.
use Rattle.std.specs.Prelude.{◌≡◌, ◌≢◌, ◌⊎◌, ℕ, true, false}
use Rattle.std.specs.BTreeSet.{BTreeSet, contains}
use Rattle.std.specs.Ordering.{nat_cmp}
use Rattle.raft_voter.specs.Rounds.{World}

-- if group `g` is in the set `differing`, its voters in worlds `W` and `X` differ; if it isn't, they are equal
pub record Marks (W X : World) (differing : BTreeSet ℕ) (g : ℕ) : Type 0 where
  pub differ : contains nat_cmp differing g ≡ true → W g ≢ X g
  pub same : contains nat_cmp differing g ≡ false → W g ≡ X g

-- for group `g`, set `new` is as set `old`, or has `g` exactly if its voters in worlds `W` and `X` differ
abbrev pub Leave : World → World → BTreeSet ℕ → BTreeSet ℕ → ℕ → Type 0
Leave W X old new g = (contains nat_cmp new g ≡ contains nat_cmp old g) ⊎ Marks W X new g

use Rattle.std.proofs.Common.{ℕ, ◌<◌, slice_index_or}
use Rattle.raft_voter.specs.Voters.{world_of}
use Rattle.raft_voter_world.specs.Differing.{Leave, Marks}
use Rattle.raft_voter_world.proofs.places.mark_all.Given as goal

-- the groups so far are marked, and the others are as they were, or are marked
abbrev pub invariant-loop-group : goal.invariant-loop-group
invariant-loop-group l = record {
  marked : (k : ℕ) → k < l.group-index → Marks (world_of l.voters) (world_of l.shown) l.differing (slice_index_or l.groups k 0);
  others : (g : ℕ) → Leave (world_of l.voters) (world_of l.shown) l.fn.differing l.differing g;
}

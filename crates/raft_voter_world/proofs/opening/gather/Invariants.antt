use Rattle.std.proofs.Common.{length}
use Rattle.raft_voter.specs.Voters.{world_of}
use Rattle.raft_voter_world.proofs.FromFiles.{IsGathered}
use Rattle.raft_voter_world.proofs.opening.gather.Given as goal

-- the voters of the last of the list were put
abbrev pub invariant-loop-group : goal.invariant-loop-group
invariant-loop-group l = IsGathered l.fn.listed.items l.listed.items (world_of l.voters)

abbrev pub decreases-loop-group : goal.decreases-loop-group
decreases-loop-group l = length l.listed.items

use Rattle.raft_voter.specs.Voters.{world_of}
use Rattle.raft_voter_world.proofs.Marking.{IsPartway}
use Rattle.raft_voter_world.proofs.places.find_place.Given as goal

abbrev pub invariant-loop-place : goal.invariant-loop-place
invariant-loop-place l = IsPartway (record { before = world_of l.fn.voters; requests = l.fn.requests; refused = l.fn.refused }) (world_of l.fn.shown) l.place-counter (world_of l.voters) l.differing

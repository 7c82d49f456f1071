use Rattle.std.proofs.Common.{◌≡◌, ◌++◌, drop}
use Rattle.raft_voter.specs.Service.{refused_from}
use Rattle.raft_voter_world.proofs.serving.refused_places.Given as goal

abbrev pub invariant-loop-place : goal.invariant-loop-place
invariant-loop-place l = l.places ++ refused_from l.place (drop l.place l.replies) ≡ refused_from 0 l.replies

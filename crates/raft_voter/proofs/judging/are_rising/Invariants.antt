use Rattle.std.proofs.Common.{◌≡◌, drop}
use Rattle.raft_voter.specs.Rounds.{are_rising}
use Rattle.raft_voter.proofs.judging.are_rising.Given as goal

-- what is left decides
abbrev pub invariant-loop-place : goal.invariant-loop-place
invariant-loop-place l = are_rising l.low l.end (drop l.place-index l.places) ≡ are_rising 0 l.end l.places

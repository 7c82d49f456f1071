use Rattle.std.proofs.Common.{◌≡◌, take}
use Rattle.raft_voter_rounds.proofs.copies.copy_requests.Given as goal

abbrev pub invariant-loop-group : goal.invariant-loop-group
invariant-loop-group l = l.copy.items ≡ take l.group-index l.requests

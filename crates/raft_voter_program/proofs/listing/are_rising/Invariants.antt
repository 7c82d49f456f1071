use Rattle.std.specs.List.{AllAdjacentBelow}
use Rattle.std.proofs.Common.{◌<◌}
use Rattle.raft_voter_program.proofs.listing.are_rising.Given as goal

-- each group before the next one is below the one behind it
abbrev pub invariant-loop-next : goal.invariant-loop-next
invariant-loop-next l = AllAdjacentBelow (λ one other. one.0 < other.0) l.voters l.next

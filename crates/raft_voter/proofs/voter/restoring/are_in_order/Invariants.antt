use Rattle.std.proofs.Common.{◌≡◌, drop}
use Rattle.raft_voter_outline.specs.Restoring.{are_in_order}
use Rattle.raft_voter.proofs.voter.restoring.are_in_order.Given as goal

-- what is left decides
abbrev pub invariant-loop-entry : goal.invariant-loop-entry
invariant-loop-entry l = are_in_order l.index (drop l.entry-index l.entries) ≡ are_in_order l.first l.entries

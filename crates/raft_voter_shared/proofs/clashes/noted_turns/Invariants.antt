use Rattle.raft_voter_shared.specs.Clashing.{AreNoted}
use Rattle.raft_voter_shared.proofs.clashes.noted_turns.Given as goal

abbrev pub invariant-loop-receipt : goal.invariant-loop-receipt
invariant-loop-receipt g l = AreNoted l.first l.receipts l.receipt-index l.turns.items

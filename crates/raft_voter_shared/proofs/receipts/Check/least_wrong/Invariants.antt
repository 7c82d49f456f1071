use Rattle.raft_voter_shared.specs.Receipts.{IsLeastBelow}
use Rattle.raft_voter_shared.proofs.receipts.Check.least_wrong.Given as goal

abbrev pub invariant-loop-index : goal.invariant-loop-index
invariant-loop-index g l = IsLeastBelow l.self.first l.self.journal.now l.self.receipts.now l.index l.least

use Rattle.std.proofs.Common.{◌≡◌, take}
use Rattle.std.specs.List.{All}
use Rattle.raft_voter_rounds.specs.Proving.{IsAt}
use Rattle.raft_voter_rounds.proofs.journal.Journal.confirm.Given as goal

-- the receipts are as they were, and the history has the records of those so far
abbrev pub invariant-loop-receipt : goal.invariant-loop-receipt
invariant-loop-receipt g l = record {
  history : l.keeper ≡ l.fn.self.history;
  receipts : l.receipts ≡ l.fn.receipts;
  found : All (λ r. IsAt l.fn.self.history r) (take l.receipt-index l.fn.receipts);
}

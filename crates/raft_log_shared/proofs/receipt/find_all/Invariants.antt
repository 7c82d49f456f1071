use Rattle.std.proofs.Common.{◌≡◌, take}
use Rattle.std.specs.List.{All}
use Rattle.raft_log_shared.specs.Receipts.{IsIn}
use Rattle.raft_log_shared.proofs.receipt.find_all.Given as goal

-- the receipts are as they were, and the history has the records of those so far
abbrev pub invariant-loop-receipt : goal.invariant-loop-receipt
invariant-loop-receipt g l = record {
  keeper : l.keeper ≡ l.fn.keeper;
  receipts : l.receipts ≡ l.fn.receipts;
  found : All (λ stamp. IsIn l.fn.keeper stamp) (take l.receipt-index l.fn.receipts);
}

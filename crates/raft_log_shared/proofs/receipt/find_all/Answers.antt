use Rattle.std.proofs.Common.{◌≡◌, length, ◌∙◌, arith}
use Rattle.raft_log_shared.proofs.Finding.{found_all, found_more, receipts_same}
use Rattle.raft_log_shared.proofs.receipt.find_all.Goals as goal

pub loop-receipt-preserved : goal.loop-receipt-preserved
loop-receipt-preserved g c =
    let so_far = c.loop-receipt.invariant in
    record {
      keeper = c.find.ensures.same.1 ∙ so_far.keeper;
      receipts = receipts_same c.args.receipts.now c.loop-receipt.receipts c.loop-receipt.receipt-index c.receipt-item.result c.find.new.self
          so_far.receipts c.find.ensures.same.0;
      found = found_more c.args.keeper.now c.loop-receipt.keeper c.args.receipts.now c.loop-receipt.receipts c.loop-receipt.receipt-index
          c.receipt-item.result c.loop-receipt-test.true so_far.keeper so_far.receipts so_far.found c.find.ensures.found;
    }

pub returns-clause-found : goal.returns-clause-found
returns-clause-found g c =
    let all : c.loop-receipt.receipt-index ≡ length c.args.receipts.now = omega (arith, c.loop-receipt-test.false, c.loop-receipt.auto.receipt-index-end) in
    found_all c.args.keeper.now c.args.receipts.now c.loop-receipt.receipt-index all c.loop-receipt.invariant.found

use Rattle.std.proofs.Common.{◌≡◌, length, ◌∙◌, arith}
use Rattle.raft_voter_rounds.proofs.Kept.{confirmed_all, confirmed_more, receipts_same}
use Rattle.raft_voter_rounds.proofs.journal.Journal.confirm.Goals as goal

pub loop-receipt-preserved : goal.loop-receipt-preserved
loop-receipt-preserved g c =
    let so_far = c.loop-receipt.invariant in
    record {
      history = c.find.ensures.same.1 ∙ so_far.history;
      receipts = receipts_same c.args.receipts.now c.loop-receipt.receipts c.loop-receipt.receipt-index c.receipt-item.result c.find.new.self
          so_far.receipts c.find.ensures.same.0;
      found = confirmed_more c.args.self.now.history c.loop-receipt.keeper c.args.receipts.now c.loop-receipt.receipts c.loop-receipt.receipt-index
          c.receipt-item.result c.loop-receipt-test.true so_far.history so_far.receipts so_far.found c.find.ensures.found;
    }

pub returns-clause-found : goal.returns-clause-found
returns-clause-found g c =
    let all : c.loop-receipt.receipt-index ≡ length c.args.receipts.now = omega (arith, c.loop-receipt-test.false, c.loop-receipt.auto.receipt-index-end) in
    confirmed_all c.args.self.now.history c.args.receipts.now c.loop-receipt.receipt-index all c.loop-receipt.invariant.found

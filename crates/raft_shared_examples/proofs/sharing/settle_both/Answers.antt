use Rattle.raft_shared_examples.specs.Seats.{receipts_in}
use Rattle.raft_shared_examples.proofs.Placed.{both_right}
use Rattle.raft_shared_examples.proofs.sharing.settle_both.Goals as goal

pub returns-in-Ok-clause-right : goal.returns-in-Ok-clause-right
returns-in-Ok-clause-right g c =
    both_right c.in-Ok.settled.first c.in-Ok.settled.journal.items c.new.result.items c.in_ok-receipts.receipts.items c.in_ok-receipts-2.receipts.items (receipts_in c.args.one.answer) (receipts_in c.args.other.answer)
    c.if-settle-eq0.true c.new.ensures.items c.in_ok-receipts.ensures.receipts c.in_ok-receipts-2.ensures.receipts c.in-Ok.ensures.receipts

use Rattle.std.proofs.Common.{arith, subst}
use Rattle.std.proofs.lemmas.List.{take_all}
use Rattle.raft_log_offline.specs.Kept.{TakesRuns}
use Rattle.raft_log_offline.proofs.Keeping.{takes_more, takes_none}
use Rattle.raft_log_offline.proofs.checker.ConsistencyChecker.take.Goals as goal

pub loop-item-init : goal.loop-item-init
loop-item-init c = takes_none c.args.self.now

pub loop-item-preserved : goal.loop-item-preserved
loop-item-preserved c =
    takes_more c.args.self.now c.loop-item.self c.take_item.new.self c.args.items.now c.loop-item.item-index _ c.item-item.result (omega arith) c.item-item.is
    c.loop-item.invariant c.in_ok-take_item.ensures

pub returns : goal.returns
returns c =
    subst (λ xs. TakesRuns xs c.args.self.now c.loop-item.self) (take_all c.loop-item.item-index c.args.items.now c.loop-item-test.false) c.loop-item.invariant

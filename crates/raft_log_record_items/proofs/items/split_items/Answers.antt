use Rattle.std.proofs.Common.{◌<◌, arith, refl}
use Rattle.std.proofs.lemmas.Result.{err_from_is_err_and}
use Rattle.raft_log_record_base.specs.Grammar.{times_at}
use Rattle.raft_log_record_base.proofs.Public.{fails_through, times_done, times_fail, times_go_on}
use Rattle.raft_log_record_items.specs.Reading.{item_at}
use Rattle.raft_log_record_items.proofs.items.split_items.Goals as goal

pub loop-preserved : goal.loop-preserved
loop-preserved c =
    let lt : c.loop.counter < c.args.count = omega arith in
    rw c.in_ok-push.ensures.items (times_go_on item_at c.loop.items.items c.args.count c.loop.counter c.loop.rest.now _ _ _ lt c.in_ok-item.ensures.exact c.loop.invariant)

pub returns-in_err-item : goal.returns-in_err-item
returns-in_err-item c =
    let lt : c.loop.counter < c.args.count = omega arith in
    let p = err_from_is_err_and c.from_residual-in_err-item.result c.from_residual-in_err-item.ensures.1 in
    rw (p.1, p.2) (
      fails_through c.in_err-item.field-0.0 (item_at c.loop.rest.now) (times_at item_at c.args.count c.args.source.now.now)
          (λ f e. times_fail item_at c.loop.items.items c.args.count c.loop.counter c.loop.rest.now f _ lt e c.loop.invariant)
          c.in_err-item.ensures.exact.0,
      refl,
    )

pub returns : goal.returns
returns c = times_done item_at c.loop.items.items c.args.count c.loop.counter c.loop.rest.now _ (omega arith) c.loop.invariant

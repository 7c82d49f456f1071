use Rattle.std.proofs.Common.{refl, ◌∙◌}
use Rattle.std.proofs.lemmas.Result.{err_from_is_err_and}
use Rattle.raft_log_purge_copy.proofs.Carried.{same_more, same_none}
use Rattle.raft_log_purge_copy.proofs.Marking.{item_unmarked}
use Rattle.raft_log_purge_copy.proofs.marks.add_marks.Goals as goal

pub loop-item-preserved : goal.loop-item-preserved
loop-item-preserved c = (
  same_more c.args.items.now c.loop-item.item-index c.item-item.result c.item-item.result c.loop-item.batch c.add_mark.new.batch c.loop-item-test.true c.item-item.is c.loop-item.invariant.0 c.in_ok-add_mark.ensures.ok,
  c.in_ok-add_mark.ensures.ok.entries ∙ c.loop-item.invariant.1,
)

pub loop-item-init : goal.loop-item-init
loop-item-init c = (same_none c.args.batch.now c.requires.state c.requires.none, refl)

pub returns-in_err-add_mark-clause-errors : goal.returns-in_err-add_mark-clause-errors
returns-in_err-add_mark-clause-errors c =
    let p = err_from_is_err_and c.from_residual.result c.from_residual.ensures.1 in
    rw (p.1, p.2)
    (item_unmarked c.args.items.now c.loop-item.item-index c.item-item.result c.item-item.result c.in_err-add_mark.field-0.0 c.loop-item-test.true c.item-item.is c.in_err-add_mark.ensures.errors)

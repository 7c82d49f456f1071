use Rattle.std.proofs.Common.{◌≡◌, true, false, sym, ◌∙◌, arith}
use Rattle.raft_log_file_settings.proofs.Thousandths.{first_from-zero, first_from-later, first_from-here, first_from-none, is_thousandths}
use Rattle.raft_log_file_settings.proofs.reading.thousandths_in.Goals as goal

pub loop-count-init : goal.loop-count-init
loop-count-init c = first_from-zero 1000 c.args.fraction

pub loop-count-preserved : goal.loop-count-preserved
loop-count-preserved c =
    let fails : is_thousandths c.args.fraction c.loop-count.count ≡ false = rw (← c.from.ensures, ← c.from-in-loop-count.ensures) c.if-fraction-from.false in
    c.loop-count.invariant ∙ first_from-later 1000 c.loop-count.count c.args.fraction (omega (arith, c.loop-count-test.true)) fails

pub returns-then-fraction-from : goal.returns-then-fraction-from
returns-then-fraction-from c =
    let passes : is_thousandths c.args.fraction c.loop-count.count ≡ true = rw (← c.from.ensures, ← c.from-in-loop-count.ensures) c.if-fraction-from.true in
    sym (c.loop-count.invariant ∙ first_from-here 1000 c.loop-count.count c.args.fraction (omega (arith, c.loop-count-test.true)) passes)

pub returns : goal.returns
returns c = sym (c.loop-count.invariant ∙ first_from-none 1000 c.loop-count.count c.args.fraction (omega (arith, c.loop-count-test.false)))

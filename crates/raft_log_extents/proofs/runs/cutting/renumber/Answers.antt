use Rattle.std.proofs.Common.{◌+◌, ◌<◌, arith, length}
use Rattle.raft_log_extents.proofs.RunSteps.{renumber_step, same_run}
use Rattle.raft_log_extents.proofs.RunReplacing.{counts_rise, widths_rise}
use Rattle.raft_log_extents.proofs.RunTurns.{counts_more, widths_more}
use Rattle.raft_log_extents.proofs.runs.cutting.renumber.Goals as goal

pub total-first-requires : goal.total-first-requires
total-first-requires c =
    let old = c.args.runs.now.items in
    let low : c.loop-i.i < length old = (let ok = c.args.runs.now.ok in omega (arith, ok, c.loop-i-test.true, c.requires.count)) in
    let is = same_run c.args.first c.args.at old c.loop-i.runs.items c.loop-i.i c.index.result.now low c.loop-i.invariant.0 c.index.ensures in
    let next = counts_more old c.loop-i.i c.index.result.now low is in
    let all = counts_rise (c.loop-i.i + 1) c.args.count old (omega (arith, c.loop-i-test.true)) in omega (arith, next, all, c.requires.numbers.0)

pub overflow_add-first : goal.overflow_add-first
overflow_add-first c =
    let old = c.args.runs.now.items in
    let low : c.loop-i.i < length old = (let ok = c.args.runs.now.ok in omega (arith, ok, c.loop-i-test.true, c.requires.count)) in
    let is = same_run c.args.first c.args.at old c.loop-i.runs.items c.loop-i.i c.index.result.now low c.loop-i.invariant.0 c.index.ensures in
    let next = counts_more old c.loop-i.i c.index.result.now low is in
    let all = counts_rise (c.loop-i.i + 1) c.args.count old (omega (arith, c.loop-i-test.true)) in omega (arith, next, all, c.requires.numbers.0, c.loop-i.invariant.1, c.total-first.ensures)

pub width-at-requires : goal.width-at-requires
width-at-requires c =
    let old = c.args.runs.now.items in
    let low : c.loop-i.i < length old = (let ok = c.args.runs.now.ok in omega (arith, ok, c.loop-i-test.true, c.requires.count)) in
    let is = same_run c.args.first c.args.at old c.loop-i.runs.items c.loop-i.i c.index.result.now low c.loop-i.invariant.0 c.index.ensures in
    let next = widths_more old c.loop-i.i c.index.result.now low is in
    let all = widths_rise (c.loop-i.i + 1) c.args.count old (omega (arith, c.loop-i-test.true)) in omega (arith, next, all, c.requires.numbers.1)

pub overflow_add-at : goal.overflow_add-at
overflow_add-at c =
    let old = c.args.runs.now.items in
    let low : c.loop-i.i < length old = (let ok = c.args.runs.now.ok in omega (arith, ok, c.loop-i-test.true, c.requires.count)) in
    let is = same_run c.args.first c.args.at old c.loop-i.runs.items c.loop-i.i c.index.result.now low c.loop-i.invariant.0 c.index.ensures in
    let next = widths_more old c.loop-i.i c.index.result.now low is in
    let all = widths_rise (c.loop-i.i + 1) c.args.count old (omega (arith, c.loop-i-test.true)) in omega (arith, next, all, c.requires.numbers.1, c.loop-i.invariant.2, c.width-at.ensures)

pub loop-i-preserved : goal.loop-i-preserved
loop-i-preserved c =
    let old = c.args.runs.now.items in
    let low : c.loop-i.i < length old = (let ok = c.args.runs.now.ok in omega (arith, ok, c.loop-i-test.true, c.requires.count)) in
    let is = same_run c.args.first c.args.at old c.loop-i.runs.items c.loop-i.i c.index.result.now low c.loop-i.invariant.0 c.index.ensures in
    let count = counts_more old c.loop-i.i c.index.result.now low is in
    let wide = widths_more old c.loop-i.i c.index.result.now low is in (
      renumber_step c.args.first c.args.at old c.loop-i.runs.items c.loop-i.i c.index.result.now c.numbered.result c.loop-i.first c.loop-i.at low
          c.loop-i.invariant.0 c.index.ensures c.loop-i.invariant.1 c.loop-i.invariant.2 c.numbered.ensures,
      omega (arith, count, c.loop-i.invariant.1, c.total-first.ensures),
      omega (arith, wide, c.loop-i.invariant.2, c.width-at.ensures),
      c.loop-i.invariant.3,
      c.loop-i.invariant.4,
    )

use Rattle.std.proofs.Common.{◌+◌, ◌<◌, arith, length, ◌∙◌}
use Rattle.raft_log_extents.proofs.RunSteps.{move_step}
use Rattle.raft_log_extents.proofs.RunTurns.{counts_more, counts_take, widths_more, widths_take}
use Rattle.raft_log_extents.proofs.runs.cutting.move_runs.Goals as goal

pub total-first-requires : goal.total-first-requires
total-first-requires c =
    let more = c.args.more.now.items in
    let next = counts_more more c.loop-i.i c.index.result.now (let ok = c.args.more.now.ok in omega (arith, ok, c.loop-i-test.true, c.len-i-end.ensures)) c.index.ensures in
    let all = counts_take more (c.loop-i.i + 1) in omega (arith, next, all, c.requires.numbers.0)

pub overflow_add-first : goal.overflow_add-first
overflow_add-first c =
    let more = c.args.more.now.items in
    let next = counts_more more c.loop-i.i c.index.result.now (let ok = c.args.more.now.ok in omega (arith, ok, c.loop-i-test.true, c.len-i-end.ensures)) c.index.ensures in
    let all = counts_take more (c.loop-i.i + 1) in omega (arith, next, all, c.requires.numbers.0, c.loop-i.invariant.1, c.total-first.ensures)

pub width-at-requires : goal.width-at-requires
width-at-requires c =
    let more = c.args.more.now.items in
    let next = widths_more more c.loop-i.i c.index.result.now (let ok = c.args.more.now.ok in omega (arith, ok, c.loop-i-test.true, c.len-i-end.ensures)) c.index.ensures in
    let all = widths_take more (c.loop-i.i + 1) in omega (arith, next, all, c.requires.numbers.1)

pub overflow_add-at : goal.overflow_add-at
overflow_add-at c =
    let more = c.args.more.now.items in
    let next = widths_more more c.loop-i.i c.index.result.now (let ok = c.args.more.now.ok in omega (arith, ok, c.loop-i-test.true, c.len-i-end.ensures)) c.index.ensures in
    let all = widths_take more (c.loop-i.i + 1) in omega (arith, next, all, c.requires.numbers.1, c.loop-i.invariant.2, c.width-at.ensures)

pub loop-i-preserved : goal.loop-i-preserved
loop-i-preserved c =
    let more = c.args.more.now.items in
    let low : c.loop-i.i < length more = (let ok = c.args.more.now.ok in omega (arith, ok, c.loop-i-test.true, c.len-i-end.ensures)) in
    let count = counts_more more c.loop-i.i c.index.result.now low c.index.ensures in
    let wide = widths_more more c.loop-i.i c.index.result.now low c.index.ensures in (
      c.push_back_reserved.ensures.items
          ∙ move_step c.args.runs.now.items c.loop-i.runs.items more c.args.first c.args.at c.loop-i.i c.index.result.now c.numbered.result c.loop-i.first c.loop-i.at low
          c.loop-i.invariant.0 c.index.ensures c.loop-i.invariant.1 c.loop-i.invariant.2 c.numbered.ensures,
      omega (arith, count, c.loop-i.invariant.1, c.total-first.ensures),
      omega (arith, wide, c.loop-i.invariant.2, c.width-at.ensures),
      omega (arith, c.push_back_reserved.ensures.len, c.loop-i.invariant.3),
      c.push_back_reserved.ensures.capacity ∙ c.loop-i.invariant.4,
    )

use Rattle.std.proofs.Common.{◌+◌, ap, arith, drop, sym, ◌∙◌}
use Rattle.raft_log_extents.specs.Blocks.{in_block}
use Rattle.raft_log_extents.specs.Runs.{block}
use Rattle.raft_log_extents.specs.Words.{place_from}
use Rattle.raft_log_extents.proofs.RunParts.{span_le, span_part}
use Rattle.raft_log_extents.proofs.RunSpots.{got, got_apart, got_inner, got_last, got_placed, no_width}
use Rattle.raft_log_extents.proofs.runs.place_in.Goals as goal

pub span-requires : goal.span-requires
span-requires c =
    let few = span_le c.args.run.now c.args.within (omega (arith, c.requires.within)) in
    let ok = c.args.starts.now.ok.0 in
    let small = c.args.starts.now.small in omega (arith, few, c.requires.there, ok, small.0, small.1)

pub place_in_deque-requires : goal.place_in_deque-requires
place_in_deque-requires c =
    let room = span_part c.args.run.now c.args.within 1 c.if-run-within.true (omega (arith, c.requires.within)) in omega (arith, room, c.requires.there, c.span.ensures)

pub returns-then-run-within : goal.returns-then-run-within
returns-then-run-within c =
    c.place_in_deque.ensures ∙ ap (λ n. place_from (drop (c.args.from + n) c.args.starts.now.items)) c.span.ensures
    ∙ sym (got_apart c.args.run.now c.args.starts.now.items c.args.from c.args.within _ c.requires.there c.if-run-within.true c.requires.within)

pub returns-then-run : goal.returns-then-run
returns-then-run c =
    let run = c.args.run.now in
    c.place.ensures ∙ sym (got run.even run _ c.args.within _ c.if-run.true c.if-run-within.false)
    ∙ sym (got_placed run c.args.starts.now.items c.args.from c.args.within _ c.requires.there c.if-run-within.false)

pub returns-then-within-run : goal.returns-then-within-run
returns-then-within-run c =
    let run = c.args.run.now in
    let wide = no_width run.even run.count c.if-run.false in
    c.place-then-within-run.ensures ∙ ap (λ n. in_block (block run) c.index-start.result.now n) c.saturating_sub.ensures
    ∙ sym (got_inner run.even run c.args.starts.now.items c.args.from c.args.within c.index-start.result.now c.index-next.result.now _ c.if-run.false
    (omega (arith, wide, c.requires.there)) c.if-within-run.true c.index-start.ensures c.index-next.ensures)
    ∙ sym (got_placed run c.args.starts.now.items c.args.from c.args.within _ c.requires.there c.if-run-within.false)

pub returns-else-within-run : goal.returns-else-within-run
returns-else-within-run c =
    let run = c.args.run.now in
    let wide = no_width run.even run.count c.if-run.false in
    c.place-else-within-run.ensures
    ∙ sym (got_last run.even run c.args.starts.now.items c.args.from c.args.within c.index-start.result.now _ c.if-run.false
    (omega (arith, wide, c.requires.there)) (omega (arith, c.if-within-run.false, c.if-run-within.false)) c.index-start.ensures)
    ∙ sym (got_placed run c.args.starts.now.items c.args.from c.args.within _ c.requires.there c.if-run-within.false)

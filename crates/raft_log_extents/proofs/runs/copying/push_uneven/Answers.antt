use Rattle.std.proofs.Common.{◌≡◌, ◌+◌, ◌<◌, ◌++◌, [], ◌∷◌, ◌∙◌, ap, arith, drop, false, length-drop, slice_index_or, sym, take}
use Rattle.raft_log_extents.specs.Blocks.{in_block}
use Rattle.raft_log_extents.specs.Entries.{entries_of, entry_of}
use Rattle.raft_log_extents.specs.Runs.{block, laid}
use Rattle.raft_log_extents.proofs.RunCopies.{copied_next, uneven_inner, uneven_last}
use Rattle.raft_log_extents.proofs.RunPlaces.{length-laid}
use Rattle.raft_log_extents.proofs.runs.copying.push_uneven.Goals as goal

pub loop-i-preserved : goal.loop-i-preserved
loop-i-preserved c =
    let run = c.args.run.now in
    let starts = c.args.starts.now.items in
    let before = c.loop-i.invariant in
    let items = before.items in
    let start = before.start in
    let count = before.len in
    let capacity = before.capacity in
    let i = c.loop-i.i in
    let there = c.requires.there in
    let rest = length-drop c.args.from starts in
    let long = length-laid false run (drop c.args.from starts) (omega (arith, rest, there)) in
    let next : c.args.within + i + 1 < run.count = omega (arith, c.requires.within, c.loop-i-test.true, c.min-inner.ensures) in
    record {
      items = copied_next c.args.queue c.args.index c.args.within i (laid false run (drop c.args.from starts)) c.place-place.result c.args.entries.now.items c.loop-i.entries.items c.push_reserved.new.self.items
          (omega (arith, long, next))
          (c.place-place.ensures ∙ ap (in_block (block run) c.loop-i.start) c.saturating_sub.ensures
          ∙ sym (uneven_inner run starts c.args.from c.args.within i c.loop-i.start c.index-end.result.now _ there next start c.index-end.ensures)) items
          (c.push_reserved.ensures.items ∙ ap (λ e. c.loop-i.entries.items ++ (e ∷ [])) c.entry_of.ensures);
      len = omega (arith, c.push_reserved.ensures.len, count);
      capacity = c.push_reserved.ensures.capacity ∙ capacity;
      start = c.index-end.ensures ∙ ap (λ n. slice_index_or starts n c.index-end.result.now) (let same : c.args.from + c.args.within + i + 1 ≡ c.args.from + c.args.within + (i + 1) = omega arith in same);
    }

pub returns-then-inner-count-clause-items : goal.returns-then-inner-count-clause-items
returns-then-inner-count-clause-items c =
    let run = c.args.run.now in
    let starts = c.args.starts.now.items in
    let before = c.loop-i.invariant in
    let items = before.items in
    let start = before.start in
    let i = c.loop-i.i in
    let there = c.requires.there in
    let rest = length-drop c.args.from starts in
    let long = length-laid false run (drop c.args.from starts) (omega (arith, rest, there)) in
    let end = c.loop-i.auto.i-end in
    let last : run.count ≡ c.args.within + i + 1 = omega (arith, end, c.requires.within, c.requires.some, c.loop-i-test.false, c.if-inner-count.true, c.min-inner.ensures) in
    let all : i + 1 ≡ c.args.count = omega (arith, end, last, c.requires.within, c.loop-i-test.false, c.if-inner-count.true, c.min-inner.ensures) in
    let index : c.args.index + c.min-inner.result ≡ c.args.index + i = omega (arith, end, c.loop-i-test.false) in
    copied_next c.args.queue c.args.index c.args.within i (laid false run (drop c.args.from starts)) c.place-place-then-inner-count.result c.args.entries.now.items c.loop-i.entries.items c.push_reserved-then-inner-count.new.self.items
    (omega (arith, long, last))
    (c.place-place-then-inner-count.ensures ∙ sym (uneven_last run starts c.args.from c.args.within i c.loop-i.start _ there last start)) items
    (c.push_reserved-then-inner-count.ensures.items
    ∙ ap (λ e. c.loop-i.entries.items ++ (e ∷ [])) (c.entry_of-then-inner-count.ensures ∙ ap (λ n. entry_of c.args.queue n c.place-place-then-inner-count.result) index))
    ∙ ap (λ n. c.args.entries.now.items ++ entries_of c.args.queue c.args.index (take n (drop c.args.within (laid false run (drop c.args.from starts))))) all

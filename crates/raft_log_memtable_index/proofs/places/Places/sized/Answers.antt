use Rattle.std.proofs.Common.{◌+◌, ◌≡◌, ap, arith, drop, length, slice_index_or, sym, take, ◌∙◌}
use Rattle.raft_log_extents.specs.Counts.{sized}
use Rattle.raft_log_extents.specs.RunLists.{places}
use Rattle.raft_log_memtable_index.proofs.Sizing.{ends, goes, starts}
use Rattle.raft_log_memtable_index.proofs.places.Places.sized.Goals as goal

pub loop-i-init : goal.loop-i-init
loop-i-init c =
    let is : places c.self.inside.runs ≡ c.args.self.now.items = ap (λ p. p.items) c.self.view_is in (
      starts c.in-Some.max_size c.args.position c.args.count c.args.self.now.items c.at-first.result
          (c.at-first.ensures.value ∙ ap (λ l. slice_index_or l c.args.position c.at-first.result) is) (omega (arith, c.if-count-eq0.false)) (omega (arith, c.requires, c.if-count-eq0.false)) c.if-first-max_size.false,
      omega (arith, c.if-count-eq0.false),
    )

pub overflow_add-position : goal.overflow_add-position
overflow_add-position c =
    let is = ap (λ p. length p.items) c.self.view_is in
    omega (arith, is, c.at-first.ensures.fits, c.requires, c.loop-i-test.true)

pub returns-then-len-left-clause-count : goal.returns-then-len-left-clause-count
returns-then-len-left-clause-count c =
    let is : places c.self.inside.runs ≡ c.args.self.now.items = ap (λ p. p.items) c.self.view_is in
    ends c.loop-i.left c.args.position c.args.count c.loop-i.i c.args.self.now.items c.at-len.result _
    (c.at-len.ensures.value ∙ ap (λ l. slice_index_or l (c.args.position + c.loop-i.i) c.at-len.result) is) c.loop-i-test.true
    (omega (arith, c.requires, c.loop-i-test.true)) c.if-len-left.true c.loop-i.invariant.0
    ∙ ap (λ m. sized m (take c.args.count (drop c.args.position c.args.self.now.items))) (sym c.in-Some.is)

pub loop-i-preserved : goal.loop-i-preserved
loop-i-preserved c =
    let is : places c.self.inside.runs ≡ c.args.self.now.items = ap (λ p. p.items) c.self.view_is in (
      goes c.loop-i.left c.args.position c.args.count c.loop-i.i c.args.self.now.items c.at-len.result _
          (c.at-len.ensures.value ∙ ap (λ l. slice_index_or l (c.args.position + c.loop-i.i) c.at-len.result) is) c.loop-i-test.true
          (omega (arith, c.requires, c.loop-i-test.true)) c.if-len-left.false c.loop-i.invariant.0,
      omega (arith, c.loop-i-test.true),
    )

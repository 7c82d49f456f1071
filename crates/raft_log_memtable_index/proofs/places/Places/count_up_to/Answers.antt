use Rattle.std.proofs.Common.{◌+◌, ◌≡◌, ◌<◌, ◌≤◌, ap, arith, length, slice_index_or, subst, ◌∙◌}
use Rattle.raft_log_extents.specs.RunLists.{places}
use Rattle.raft_log_memtable_index.proofs.Sizing.{goes_on, stops}
use Rattle.raft_log_memtable_index.proofs.places.Places.count_up_to.Goals as goal

pub returns-then-at-gate-clause-count : goal.returns-then-at-gate-clause-count
returns-then-at-gate-clause-count c =
    let is : places c.self.inside.runs ≡ c.args.self.now.items = ap (λ p. p.items) c.self.view_is in
    stops c.args.gate c.args.position c.args.limit c.loop-i.i c.args.self.now.items c.at.result _ (omega (arith, c.loop-i-test.true, c.min-limit.ensures))
    (omega (arith, c.loop-i-test.true, c.min-limit.ensures, c.len.ensures, c.requires, ap length is))
    (subst (λ p. c.args.gate < p.file) (c.at.ensures.value ∙ ap (λ l. slice_index_or l (c.args.position + c.loop-i.i) c.at.result) is) c.if-at-gate.true) c.loop-i.invariant

pub loop-i-preserved : goal.loop-i-preserved
loop-i-preserved c =
    let is : places c.self.inside.runs ≡ c.args.self.now.items = ap (λ p. p.items) c.self.view_is in
    goes_on c.args.gate c.args.position c.args.limit c.loop-i.i c.args.self.now.items c.at.result _ (omega (arith, c.loop-i-test.true, c.min-limit.ensures))
    (omega (arith, c.loop-i-test.true, c.min-limit.ensures, c.len.ensures, c.requires, ap length is))
    (subst (λ p. p.file ≤ c.args.gate) (c.at.ensures.value ∙ ap (λ l. slice_index_or l (c.args.position + c.loop-i.i) c.at.result) is) c.if-at-gate.false) c.loop-i.invariant

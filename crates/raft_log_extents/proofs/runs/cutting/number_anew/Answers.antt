use Rattle.std.proofs.Common.{◌≡◌, ◌+◌, ◌-◌, ap, arith, drop, subst, take, take-append-drop, ◌∙◌}
use Rattle.raft_log_extents.specs.Runs.{IsNumbered, counts, widths}
use Rattle.raft_log_extents.proofs.RunLists.{widths-append}
use Rattle.raft_log_extents.proofs.RunReplacing.{renumbered_front, renumbered_none}
use Rattle.raft_log_extents.proofs.RunTurns.{counts_take, widths_take}
use Rattle.raft_log_extents.proofs.runs.cutting.number_anew.Goals as goal

pub returns-then-stop-to-clause-items : goal.returns-then-stop-to-clause-items
returns-then-stop-to-clause-items c =
    let rs = c.args.runs.now.items in
    let same : c.args.base + c.args.to ≡ c.args.base + widths (take c.args.count rs) = omega (arith, c.requires.stop, c.if-stop-to.true) in
    renumbered_none c.args.front c.args.base c.args.count rs c.requires.first
    (subst (λ m. IsNumbered (c.args.front + counts (take c.args.count rs)) m (drop c.args.count rs)) same c.requires.behind)

pub renumber-requires-clause-numbers : goal.renumber-requires-clause-numbers
renumber-requires-clause-numbers c =
    let few = counts_take c.args.runs.now.items c.args.count in
    (omega (arith, few, c.requires.numbers.0), omega (arith, c.requires.stop, c.if-stop-end.true, c.requires.numbers.2))

pub returns-then-stop-end-clause-items : goal.returns-then-stop-end-clause-items
returns-then-stop-end-clause-items c =
    c.renumber.ensures.items
    ∙ renumbered_front c.args.front (c.args.base + c.args.to) (c.args.base + c.args.to - c.args.stop) c.args.count c.args.runs.now.items c.requires.behind
    (omega (arith, c.requires.stop, c.if-stop-end.true))

pub renumber-requires-2-clause-numbers : goal.renumber-requires-2-clause-numbers
renumber-requires-2-clause-numbers c =
    let rs = c.args.runs.now.items in
    let few = counts_take rs c.len-all.result in
    let less = widths_take rs c.len-all.result in
    (omega (arith, few, c.requires.numbers.0), omega (arith, less, c.requires.numbers.1))

pub returns-then-stop-end-clause-base : goal.returns-then-stop-end-clause-base
returns-then-stop-end-clause-base c =
    let rs = c.args.runs.now.items in
    let parts = ap widths (take-append-drop c.args.count rs) in
    let sum = widths-append (take c.args.count rs) (drop c.args.count rs) in
    (omega (arith, parts, sum, c.requires.stop, c.if-stop-end.true, c.requires.numbers.2), omega (arith, parts, sum, c.requires.stop, c.if-stop-end.true))

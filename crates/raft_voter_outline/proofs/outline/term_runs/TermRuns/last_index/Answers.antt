use Rattle.std.proofs.Common.{◌≡◌, ◌-◌, ◌∙◌, sym, Some, length, rules, slice_get, arith}
use Rattle.raft_voter_outline.proofs.Unrolling.{end-unrolled, end_above, end_small, top_unrolled}
use Rattle.raft_voter_outline.proofs.outline.term_runs.TermRuns.last_index.Goals as goal

pub returns-in-Some-clause-value : goal.returns-in-Some-clause-value
returns-in-Some-clause-value c =
    let rs = c.self.inside.runs.items in
    let there : slice_get rs (length rs - 1) ≡ Some c.in-Some.run'.now = search rules in
    rw (← c.self.view_is) (sym (end-unrolled rs c.self.inside.base c.self.invariant.rise ∙ (top_unrolled rs c.self.inside.base c.in-Some.run'.now c.self.invariant.rise there).1))

pub returns-in-Some-clause-small : goal.returns-in-Some-clause-small
returns-in-Some-clause-small c =
    let rs = c.self.inside.runs.items in
    let there : slice_get rs (length rs - 1) ≡ Some c.in-Some.run'.now = search rules in
    let last = (top_unrolled rs c.self.inside.base c.in-Some.run'.now c.self.invariant.rise there).1 in
    omega (arith, last, end_small rs c.self.inside.base c.self.invariant.rise)

pub returns-in-Some-clause-above : goal.returns-in-Some-clause-above
returns-in-Some-clause-above c =
    let rs = c.self.inside.runs.items in
    let there : slice_get rs (length rs - 1) ≡ Some c.in-Some.run'.now = search rules in
    let last = (top_unrolled rs c.self.inside.base c.in-Some.run'.now c.self.invariant.rise there).1 in
    rw (← c.self.view_is) (omega (arith, last, end_above rs c.self.inside.base c.self.invariant.rise))

use Rattle.std.proofs.Common.{◌≡◌, ◌-◌, sym, Some, length, rules, slice_get}
use Rattle.raft_voter_outline.proofs.Unrolling.{top_unrolled}
use Rattle.raft_voter_outline.proofs.outline.term_runs.TermRuns.last_term.Goals as goal

pub returns : goal.returns
returns c =
    let rs = c.self.inside.runs.items in
    let there : slice_get rs (length rs - 1) ≡ Some c.in_ok-run.run'.now = search rules in
    rw (← c.self.view_is) (sym (top_unrolled rs c.self.inside.base c.in_ok-run.run'.now c.self.invariant.rise there).0)

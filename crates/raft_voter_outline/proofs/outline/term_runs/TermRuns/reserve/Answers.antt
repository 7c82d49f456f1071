use Rattle.std.proofs.Common.{◌≡◌, [], length, rules}
use Rattle.raft_voter_outline.specs.Runs.{unrolled}
use Rattle.raft_voter_outline.proofs.Unrolling.{none_unrolled}
use Rattle.raft_voter_outline.proofs.outline.term_runs.TermRuns.reserve.Goals as goal

pub returns-clause-first : goal.returns-clause-first
returns-clause-first c = λ none.
    let rs = c.self.inside.runs.items in
    let b = c.self.inside.base in
    let bare : unrolled b rs ≡ [] = rw (← c.self.view_is) at none in
    let no : length rs ≡ 0 = none_unrolled rs b c.self.invariant.rise bare in
    absurd (search (rules, no))

use Rattle.std.proofs.Common.{◌≡◌, ◌+◌, ◌≤◌, None, drop}
use Rattle.raft_voter_outline.specs.Runs.{runs_behind}
use Rattle.raft_voter_outline.proofs.outline.term_runs.runs_in.Given as goal

-- what is left is missing in the count
abbrev pub invariant-loop-term : goal.invariant-loop-term
invariant-loop-term l = record {
  few : l.count ≤ l.term-index;
  rest : l.count + runs_behind l.before (drop l.term-index l.entries) ≡ runs_behind None l.entries;
}

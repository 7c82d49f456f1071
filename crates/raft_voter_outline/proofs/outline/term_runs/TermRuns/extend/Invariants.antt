use Rattle.std.proofs.Common.{◌≡◌, ◌+◌, ◌≤◌, ◌<◌, ◌^◌, ◌++◌, length, drop}
use Rattle.raft_voter_outline.specs.Runs.{bare, runs_behind, top_term}
use Rattle.raft_voter_outline.proofs.outline.term_runs.TermRuns.extend.Given as goal

-- there is room for what is left
abbrev pub invariant-loop-term : goal.invariant-loop-term
invariant-loop-term l = record {
  base : l.self.base ≡ l.fn.self.base;
  size : l.self.base + length l.self.log + length (drop l.term-index l.entries) < 2 ^ 63;
  room : runs_behind (top_term l.self.log) (drop l.term-index l.entries) ≤ l.self.room;
  spent : l.self.room + runs_behind (top_term l.fn.self.log) l.entries ≡ l.fn.self.room + runs_behind (top_term l.self.log) (drop l.term-index l.entries);
  rest : l.self.log ++ bare (drop l.term-index l.entries) ≡ l.fn.self.log ++ bare l.entries;
}

use Rattle.std.proofs.Common.{◌≡◌, ◌+◌, ◌++◌, drop}
use Rattle.raft_voter_outline.specs.Rules.{numbered}
use Rattle.raft_voter.proofs.voter.log.numbered.Given as goal

abbrev pub invariant-loop-term : goal.invariant-loop-term
invariant-loop-term l = record {
  at : l.index ≡ l.from + l.term-index;
  rest : l.given.items ++ numbered l.index (drop l.term-index l.entries) ≡ numbered l.from l.entries;
}

use Rattle.std.proofs.Common.{◌≡◌, ◌+◌, take}
use Rattle.raft_voter_recovery.specs.Terms.{AddsTold}
use Rattle.raft_voter_recovery.proofs.terms.push_terms.Given as goal

-- the terms so far
abbrev pub invariant-loop-head : goal.invariant-loop-head
invariant-loop-head l = record {
  added : AddsTold l.first (take l.head-index l.heads) l.fn.outline.voter l.outline.voter;
  at : l.index ≡ l.first + l.head-index;
}

use Rattle.std.proofs.Common.{◌≡◌, take}
use Rattle.raft_voter_rounds.proofs.copies.copy_sent.Given as goal

abbrev pub invariant-loop-term : goal.invariant-loop-term
invariant-loop-term l = l.copy.items ≡ take l.term-index l.entries

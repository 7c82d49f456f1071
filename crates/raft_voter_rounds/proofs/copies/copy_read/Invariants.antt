use Rattle.std.proofs.Common.{◌≡◌, take}
use Rattle.raft_voter_rounds.proofs.copies.copy_read.Given as goal

abbrev pub invariant-loop-entry : goal.invariant-loop-entry
invariant-loop-entry l = l.copy.items ≡ take l.entry-index l.entries

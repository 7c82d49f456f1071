use Rattle.std.proofs.Common.{◌+◌}
use Rattle.raft_voter_plain.specs.Beginnings.{BeginsWithEntries}
use Rattle.raft_voter_plain.proofs.record.read_entries.Given as goal

abbrev pub invariant-loop-i : goal.invariant-loop-i
invariant-loop-i l = BeginsWithEntries l.bytes (l.base + 1) l.i l.entries l.left

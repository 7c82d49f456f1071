use Rattle.std.proofs.Common.{◌≡◌, ◌++◌, map}
use Rattle.std.specs.Map.{keys_of}
use Rattle.raft_voter.proofs.voters.Voters.groups.Given as goal

-- with those that are left the groups are those of all entries
abbrev pub invariant-loop-group : goal.invariant-loop-group
invariant-loop-group l = l.groups.items ++ keys_of l.group-iterator ≡ keys_of l.fn.self.voters.entries

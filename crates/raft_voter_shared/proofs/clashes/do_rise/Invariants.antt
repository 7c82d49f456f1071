use Rattle.std.specs.BTreeMap.{get}
use Rattle.std.specs.Ordering.{nat_cmp}
use Rattle.raft_voter_shared.specs.Clashing.{RiseBelow}
use Rattle.raft_voter_shared.proofs.Clashing.{LastBelow}
use Rattle.raft_voter_shared.proofs.clashes.do_rise.Given as goal

abbrev pub invariant-loop-noted : goal.invariant-loop-noted
invariant-loop-noted l = RiseBelow l.turns l.noted-index × LastBelow l.turns l.noted-index (get nat_cmp l.last)

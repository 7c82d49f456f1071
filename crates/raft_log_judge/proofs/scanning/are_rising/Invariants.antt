use Rattle.std.proofs.Common.{◌↔◌, length}
use Rattle.std.specs.Cmp.Lexicographic.{slice_cmp}
use Rattle.std.specs.List.Sorted.{IsStrictlySortedBy}
use Rattle.std.specs.Map.{keys_of}
use Rattle.std.specs.Ordering.{nat_cmp}
use Rattle.raft_log_world.specs.Reads.{pairs_of}
use Rattle.raft_log_judge.proofs.scanning.are_rising.Given as goal

-- the pairs that are left decide
abbrev pub invariant-loop-pair : goal.invariant-loop-pair
invariant-loop-pair l = IsStrictlySortedBy (slice_cmp nat_cmp) (keys_of (pairs_of l.rest)) ↔ IsStrictlySortedBy (slice_cmp nat_cmp) (keys_of (pairs_of l.pairs))

abbrev pub decreases-loop-pair : goal.decreases-loop-pair
decreases-loop-pair l = length l.rest

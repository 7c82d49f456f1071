use Rattle.std.proofs.Common.{◌≡◌, []}
use Rattle.std.specs.List.{AllAdjacentBelow}
use Rattle.raft_log_recovery_scan.specs.Runs.{FollowsNumber}
use Rattle.raft_log_inspection.proofs.gap.gaps_of.Given as goal

-- without a gap so far, the numbers so far are consecutive
abbrev pub invariant-loop-at : goal.invariant-loop-at
invariant-loop-at l = l.gaps.items ≡ [] → AllAdjacentBelow FollowsNumber l.files l.at
